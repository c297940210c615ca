-- The words of a call text and of what is told of a call: names as document 01 and the header have them, and what each names.
use Rattle.std.specs.Prelude.{ℕ, ◌+◌, Bool, List, [], ◌∷◌, ◌++◌, map, leb, ltb, eqb, Option, None, Some}
use Prim.Native.String.{String}
use Rattle.laws.specs.Logic.{when}
use Rattle.laws.specs.Tests.{same_list}
use Rattle.items.specs.Items.{in_set}
use Rattle.names.specs.declared.Meaning.{Meaning}
use Rattle.names.specs.Bytes.{bytes}

-- a name, the kind of what it names, and which of that kind
pub record Entry : Type 0 where
  pub name : List ℕ
  pub kind : ℕ
  pub number : ℕ

abbrev entry : String → ℕ → ℕ → Entry
entry name kind number = record { name = bytes name; kind = kind; number = number }

-- the kinds: an end of the call; a line of a call text, by what stands behind its name
abbrev pub end : ℕ
end = 1

abbrev pub line : ℕ
line = 2

-- "1 H.324, 2 textphone, 3 videotex, 4 fax sent by caller, 5 fax received by caller, 6 data"
abbrev pub function : ℕ
function = 3

-- "Items 1 to 12: V.34 duplex, V.34 half duplex, V.32 bis, V.22 bis, V.17, V.29 half duplex, V.27 ter, V.26 ter, V.26 bis, V.23 duplex,
-- V.23 half duplex, V.21."; behind them, from 13 on, the PCM options "b5 analogue, b6 digital, b7 V.91"
abbrev pub mode : ℕ
mode = 4

-- V.8's other names for items 3 and 4
abbrev pub other_mode : ℕ
other_mode = 5

-- a part of an end's line, by what stands behind its name
abbrev pub part : ℕ
part = 6

-- "LAPM wanted, access wanted, cellular, digital": what is wanted, and what the line is
abbrev pub wanted : ℕ
wanted = 7

abbrev pub quality : ℕ
quality = 8

-- "b5 caller cellular, b6 answerer cellular, b7 digital network"
abbrev pub access : ℕ
access = 9

unfoldable pub names : List Entry
names =
    entry "caller" end 1 ∷
    entry "answerer" end 2 ∷
    entry "call" line 5 ∷
    entry "Te" line 6 ∷
    entry "damaged" line 7 ∷
    entry "blocks" line 8 ∷
    entry "cadence" line 9 ∷
    entry "answers" line 10 ∷
    entry "H.324" function 1 ∷
    entry "textphone" function 2 ∷
    entry "videotex" function 3 ∷
    entry "fax-sent" function 4 ∷
    entry "fax-received" function 5 ∷
    entry "data" function 6 ∷
    entry "V.34" mode 1 ∷
    entry "V.34-half-duplex" mode 2 ∷
    entry "V.32bis" mode 3 ∷
    entry "V.22bis" mode 4 ∷
    entry "V.17" mode 5 ∷
    entry "V.29-half-duplex" mode 6 ∷
    entry "V.27ter" mode 7 ∷
    entry "V.26ter" mode 8 ∷
    entry "V.26bis" mode 9 ∷
    entry "V.23" mode 10 ∷
    entry "V.23-half-duplex" mode 11 ∷
    entry "V.21" mode 12 ∷
    entry "PCM-analogue" mode 13 ∷
    entry "PCM-digital" mode 14 ∷
    entry "V.91" mode 15 ∷
    entry "V.32" other_mode 3 ∷
    entry "V.22" other_mode 4 ∷
    entry "home" part 3 ∷
    entry "wants" part 4 ∷
    entry "sends" part 8 ∷
    entry "LAPM" wanted 0 ∷
    entry "access" wanted 1 ∷
    entry "cellular" quality 2 ∷
    entry "digital" quality 3 ∷
    entry "caller-cellular" access 0 ∷
    entry "answerer-cellular" access 1 ∷
    entry "digital-network" access 2 ∷
    []

-- a letter in lower case; every other byte as it is
abbrev pub lower : ℕ → ℕ
lower b = when (ltb b 65) b (when (leb b 90) (b + 32) b)

-- two words of the same letters, in upper or in lower case
abbrev pub same_letters : List ℕ → List ℕ → Bool
same_letters a b = same_list (map lower a) (map lower b)

abbrev pub meaning_of : Entry → Meaning
meaning_of e = record { kind = e.kind; number = e.number }

-- what a word names by a list of names: what the first name with its letters does, and nothing where there is none
unfoldable pub named_by : List Entry → List ℕ → Option Meaning
named_by [] word = None
named_by (e ∷ rest) word = when (same_letters word e.name) (Some (meaning_of e)) (named_by rest word)

abbrev pub named : List ℕ → Option Meaning
named word = named_by names word

-- a name of this kind whose number is in the set, behind a blank; nothing for any other
abbrev pub name_of : ℕ → ℕ → Entry → List ℕ
name_of kind set e = when (eqb e.kind kind) (when (in_set set e.number) (32 ∷ e.name) []) []

-- all of them, in the order of the names
unfoldable pub names_of : ℕ → ℕ → List Entry → List ℕ
names_of kind set [] = []
names_of kind set (e ∷ rest) = name_of kind set e ++ names_of kind set rest
