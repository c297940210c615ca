-- What a writer leaves in a lent buffer.
use Rattle.std.specs.Prelude.{ℕ, List, ◌++◌, length, drop}

-- the new bytes stand at the front, and later bytes keep their values
abbrev pub front : List ℕ → List ℕ → List ℕ
front new old = new ++ drop (length new) old
