-- What a return is answered with, whatever the tests on its path: each test of the code is turned into the test of the definition.
-- Assumes nothing.
use borrow.Author.Rules.{rules}
use borrow.Author.Tests.{lt-ltb, le-ltb, le-leb, lt-leb, eq-eqb, ne_eqb}

pub ruleset cases = (rules, lt-ltb, le-ltb, le-leb, lt-leb, eq-eqb, ne_eqb)
