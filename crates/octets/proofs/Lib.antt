pub mod EachOctet
pub mod Lists
pub mod Fine
pub mod Made
