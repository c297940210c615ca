-- Worked texts, computed: each name stands for document 01's number. A mode stands in the functions that its number has in binary, so no two
-- stand in the same ones.
-- Assumes nothing.
use Rattle.std.proofs.Common.{◌≡◌, ℕ, List, [], ◌∷◌, ◌++◌, replicate, Result, Ok, Err, refl}
use Rattle.laws.specs.Logic.{when, both, either}
use Rattle.laws.specs.Tests.{same_list}
use Rattle.items.specs.Items.{in_set}
use Rattle.names.specs.Bytes.{bytes}
use Rattle.names.specs.Names.{names, named_by}
use Rattle.records.specs.declared.Modes.{Modes}
use Rattle.records.specs.declared.Record.{Record}
use Rattle.records.specs.Record.{no_modes, modes_at, any_bad, bad_record}
use Rattle.plans.specs.declared.Plan.{Plan}
use Rattle.plans.specs.declared.Mistake.{Mistake}
use Rattle.plans.specs.Text.{word_length, number_on, hex_value, octet}
use Rattle.plans.specs.Reading.{with_cadence, with_answer, say, name_function, name_home, name_mode, part_word, end_word, is_said, first_word, lacks_call, planning, function_word, name_word, cadenced, answering, number_word, read_word, record_of, record_mistake, with_home, finish_end, finish_line, scan_after, read_byte, no_plan, mistake, missing, finished, read_from, read_text, marked_from, marked, octets_from, octets_in, blocks_in, cm_in}

-- the plan that a text is
abbrev pub plan_of : Result Plan Mistake → Plan
plan_of (Ok plan) = plan
plan_of (Err wrong) = no_plan

abbrev having : ℕ → ℕ → Modes
having items pcm = record { available = 1; pcm = pcm; items = items }

-- document 01's record A and the first answerer to it
abbrev first_call : List ℕ
first_call = bytes "caller    data V.34 V.32bis V.22bis V.21, wants LAPM\nanswerer  data V.32bis V.22bis V.26ter\ncall      data\n"

abbrev data_alone : ℕ → ℕ → Record
data_alone items lapm = record {
  functions = no_modes ∷ no_modes ∷ no_modes ∷ no_modes ∷ no_modes ∷ having items 0 ∷ [];
  home = 6;
  lapm = lapm;
  access = 0;
  cellular = 0;
  digital = 0;
}

abbrev every_name : List ℕ
every_name =
    bytes "caller H.324 V.34 V.32bis V.17 V.27ter V.26bis V.23-half-duplex PCM-analogue V.91 textphone V.34 V.34-half-duplex V.32bis V.29-half-duplex V.27ter V.23 V.23-half-duplex PCM-digital V.91 videotex V.34 V.22bis V.17 V.29-half-duplex V.27ter V.21 PCM-analogue PCM-digital V.91 fax-sent V.34 V.26ter V.26bis V.23 V.23-half-duplex V.21 PCM-analogue PCM-digital V.91 fax-received V.34 data V.32 V.22 home fax-received wants access cellular\nanswerer data cellular digital\ncall fax-sent\nTe 500\nblocks B5\ndamaged caller 0 2"

pub first_call_is_read :
    (record_of (plan_of (read_text first_call)) 1 ≡ data_alone 0x101A 1) × (record_of (plan_of (read_text first_call)) 2 ≡ data_alone 0x0118 0)
    × ((plan_of (read_text first_call)).function ≡ 6) × ((plan_of (read_text first_call)).te ≡ 1000)
unfolding bytes names named_by same_list when both either in_set modes_at any_bad bad_record word_length number_on say name_function name_home name_mode part_word end_word is_said first_word lacks_call planning function_word name_word cadenced answering number_word read_word record_of record_mistake with_home finish_end finish_line scan_after read_byte missing finished read_from marked_from marked
first_call_is_read = (refl, refl, refl, refl)

abbrev several_functions : Record
several_functions = record {
  functions = having 0x0AAA 5 ∷ having 0x0CCE 6 ∷ having 0x10F2 7 ∷ having 0x1F02 7 ∷ having 0x0002 0 ∷ having 0x0018 0 ∷ [];
  home = 5;
  lapm = 0;
  access = 1;
  cellular = 1;
  digital = 0;
}

abbrev no_modes_for_data : Record
no_modes_for_data = record {
  functions = no_modes ∷ no_modes ∷ no_modes ∷ no_modes ∷ no_modes ∷ having 0 0 ∷ [];
  home = 6;
  lapm = 0;
  access = 0;
  cellular = 1;
  digital = 1;
}

pub every_name_is_read :
    (record_of (plan_of (read_text every_name)) 1 ≡ several_functions) × (record_of (plan_of (read_text every_name)) 2 ≡ no_modes_for_data)
    × ((plan_of (read_text every_name)).function ≡ 4) × ((plan_of (read_text every_name)).te ≡ 500) × (blocks_in every_name ≡ 0xB5 ∷ [])
    × (marked every_name (replicate 4 0) ≡ 1 ∷ 0 ∷ 1 ∷ 0 ∷ [])
unfolding bytes names named_by same_list when both either in_set modes_at any_bad bad_record word_length number_on say name_function name_home name_mode part_word end_word is_said first_word lacks_call planning function_word name_word cadenced answering number_word read_word record_of record_mistake with_home finish_end finish_line scan_after read_byte missing finished read_from marked_from marked octet hex_value octets_from octets_in
every_name_is_read = (refl, refl, refl, refl, refl, refl)

-- octets in upper and lower case, in two lines that stand apart
abbrev some_blocks : List ℕ
some_blocks = bytes "blocks 01 23 45 67 89 AB CD EF\ncaller data\nanswerer data\ncall data\nblocks aB cd,ef # a0"

pub blocks_are_read : blocks_in some_blocks ≡ 0x01 ∷ 0x23 ∷ 0x45 ∷ 0x67 ∷ 0x89 ∷ 0xAB ∷ 0xCD ∷ 0xEF ∷ 0xAB ∷ 0xCD ∷ 0xEF ∷ []
unfolding bytes names named_by same_list when both either in_set modes_at any_bad bad_record word_length number_on say name_function name_home name_mode part_word end_word is_said first_word lacks_call planning function_word name_word cadenced answering number_word read_word record_of record_mistake with_home finish_end finish_line scan_after read_byte missing finished read_from octet hex_value octets_from octets_in
blocks_are_read = refl

-- a stranger's CM, with blocks that stand before and behind it
abbrev strangers_call : List ℕ
strangers_call = bytes "blocks 07\nanswerer data\nCaller sends c1,45 # 10\nTe 500\nblocks 10"

pub stranger_is_read :
    (cm_in strangers_call ≡ 0xC1 ∷ 0x45 ∷ []) × (blocks_in strangers_call ≡ 0x07 ∷ 0x10 ∷ []) × ((plan_of (read_text strangers_call)).function ≡ 7) × ((plan_of (read_text strangers_call)).te ≡ 500)
unfolding bytes names named_by same_list when both either in_set modes_at any_bad bad_record word_length number_on say name_function name_home name_mode part_word end_word is_said first_word lacks_call planning function_word name_word cadenced answering number_word read_word record_of record_mistake with_home finish_end finish_line scan_after read_byte missing finished read_from octet hex_value octets_from octets_in
stranger_is_read = (refl, refl, refl, refl)

-- it stands alone: not behind a function of the caller, in the answerer's line or behind a call, and no call or caller's line comes behind it
pub sends_stands_alone :
    (read_text (bytes "caller data sends C1") ≡ mistake 22 12) × (read_text (bytes "answerer sends C1") ≡ mistake 22 9)
    × (read_text (bytes "call data\ncaller sends C1") ≡ mistake 22 17) × (read_text (bytes "caller sends C1\ncall data") ≡ mistake 11 16)
    × (read_text (bytes "caller sends C1\ncaller data") ≡ mistake 11 16) × (read_text (bytes "caller sends\n") ≡ mistake 20 12)
unfolding bytes names named_by same_list when both either in_set modes_at any_bad bad_record word_length number_on say name_function name_home name_mode part_word end_word is_said first_word lacks_call planning function_word name_word cadenced answering number_word read_word record_of record_mistake with_home finish_end finish_line scan_after read_byte missing finished read_from octet hex_value
sends_stands_alone = (refl, refl, refl, refl, refl, refl)

-- a cadence, its numbers as they are and behind zeros; without one a plan has that of the house
abbrev ends : List ℕ
ends = bytes "caller data\nanswerer data\ncall data\n"

pub cadence_is_read :
    (plan_of (read_text (ends ++ bytes "cadence 3 600")) ≡ with_cadence (plan_of (read_text ends)) 3 600) × (plan_of (read_text (ends ++ bytes "Cadence 020,0120 # 9\n")) ≡ with_cadence (plan_of (read_text ends)) 20 120)
    × ((plan_of (read_text ends)).on ≡ 5) × ((plan_of (read_text ends)).off ≡ 450)
unfolding bytes names named_by same_list when both either in_set modes_at any_bad bad_record word_length number_on say name_function name_home name_mode part_word end_word is_said first_word lacks_call planning function_word name_word cadenced answering number_word read_word record_of record_mistake with_home finish_end finish_line scan_after read_byte missing finished read_from
cadence_is_read = (refl, refl, refl, refl)

-- a number that is none, one out of its range on either side, a third, none at all, and the line again
pub cadence_has_its_place :
    (read_text (bytes "cadence on") ≡ mistake 23 8) × (read_text (bytes "cadence 2 450") ≡ mistake 23 8) × (read_text (bytes "cadence 21 450") ≡ mistake 23 8)
    × (read_text (bytes "cadence 261 450") ≡ mistake 23 8) × (read_text (bytes "cadence 5 119") ≡ mistake 24 10) × (read_text (bytes "cadence 5 601") ≡ mistake 24 10)
    × (read_text (bytes "cadence 5 65986") ≡ mistake 24 10) × (read_text (bytes "cadence 5 450 1") ≡ mistake 10 14) × (read_text (bytes "cadence\n") ≡ mistake 23 7)
    × (read_text (bytes "cadence 5\n") ≡ mistake 24 9) × (read_text (bytes "cadence 5 450\ncadence 5 450") ≡ mistake 11 14)
unfolding bytes names named_by same_list when both either in_set modes_at any_bad bad_record word_length number_on say name_function name_home name_mode part_word end_word is_said first_word lacks_call planning function_word name_word cadenced answering number_word read_word record_of record_mistake with_home finish_end finish_line scan_after read_byte missing finished read_from
cadence_has_its_place = (refl, refl, refl, refl, refl, refl, refl, refl, refl, refl, refl)

-- when the answerer answers, and mistakes of that line
pub answer_is_read :
    (plan_of (read_text (ends ++ bytes "answers 20000")) ≡ with_answer (plan_of (read_text ends)) 20000) × ((plan_of (read_text ends)).answers ≡ 200)
    × (read_text (bytes "answers late") ≡ mistake 25 8) × (read_text (bytes "answers 199") ≡ mistake 25 8) × (read_text (bytes "answers 20001") ≡ mistake 25 8)
    × (read_text (bytes "answers\n") ≡ mistake 25 7) × (read_text (bytes "answers 200 1") ≡ mistake 10 12) × (read_text (bytes "answers 200\nanswers 200") ≡ mistake 11 12)
unfolding bytes names named_by same_list when both either in_set modes_at any_bad bad_record word_length number_on say name_function name_home name_mode part_word end_word is_said first_word lacks_call planning function_word name_word cadenced answering number_word read_word record_of record_mistake with_home finish_end finish_line scan_after read_byte missing finished read_from
answer_is_read = (refl, refl, refl, refl, refl, refl, refl, refl)

pub mistake_has_its_place : read_text (bytes "caller data V.35") ≡ mistake 2 12
unfolding bytes names named_by same_list when both either in_set modes_at any_bad bad_record word_length number_on say name_function name_home name_mode part_word end_word is_said first_word lacks_call planning function_word name_word cadenced answering number_word read_word record_of record_mistake with_home finish_end finish_line scan_after read_byte missing finished read_from
mistake_has_its_place = refl

-- a word that is no octet, and a line without one
pub no_octet_has_its_place : (read_text (bytes "blocks 4 G1") ≡ mistake 20 7) × (read_text (bytes "blocks 41 4G") ≡ mistake 21 10) × (read_text (bytes "blocks\n") ≡ mistake 20 6)
unfolding bytes names named_by same_list when both either in_set modes_at any_bad bad_record word_length number_on say name_function name_home name_mode part_word end_word is_said first_word lacks_call planning function_word name_word cadenced answering number_word read_word record_of record_mistake with_home finish_end finish_line scan_after read_byte missing finished read_from octet hex_value
no_octet_has_its_place = (refl, refl, refl)
