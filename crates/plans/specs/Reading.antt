-- A call text, read into a plan or the first mistake in it.
use Rattle.std.specs.Prelude.{ℕ, ◌+◌, ◌*◌, ◌/◌, ◌%◌, ◌^◌, Bool, true, false, List, [], ◌∷◌, ◌++◌, replicate, Option, Some, None, Result, Ok, Err, is_ok, ◌==◌, nat_lt, slice_index, slice_set}
use Rattle.laws.specs.Logic.{when, both, either}
use Rattle.items.specs.Items.{in_set}
use Rattle.names.specs.declared.Meaning.{Meaning}
use Rattle.names.specs.Names.{end, line, function, mode, other_mode, part, wanted, quality, named}
use Rattle.records.specs.declared.Modes.{Modes}
use Rattle.records.specs.declared.Record.{Record}
use Rattle.records.specs.Record.{in_use, bad_record}
use Rattle.cadence.specs.Cadence.{is_cadence}
use Rattle.steps.specs.Session.{between as in_range, is_te, default_te}
use Rattle.plans.specs.declared.Plan.{Plan}
use Rattle.plans.specs.declared.Mistake.{Mistake}
use Rattle.plans.specs.declared.Reading.{Reading}
use Rattle.plans.specs.declared.Scan.{Scan}
use Rattle.plans.specs.declared.Scan.TheVariants.{Between, InWord, InComment}
use Rattle.plans.specs.Text.{blank, ends_word, line_feed, comment, word, number, octet}

-- what may come next: a line; in an end's line; behind `home`, `wants`, `call`, `Te`, `damaged`; the first bit, further bits; the line's end.
-- What does not come is the mistake of that number
abbrev pub beginning : ℕ
beginning = 1

abbrev pub in_end : ℕ
in_end = 2

abbrev pub after_home : ℕ
after_home = 3

abbrev pub after_wants : ℕ
after_wants = 4

abbrev pub after_call : ℕ
after_call = 5

abbrev pub after_te : ℕ
after_te = 6

abbrev pub after_damaged : ℕ
after_damaged = 7

abbrev pub first_bit : ℕ
first_bit = 8

abbrev pub bits : ℕ
bits = 9

abbrev pub done : ℕ
done = 10

-- what is said already
abbrev pub twice : ℕ
twice = 11

-- a mode before a function
abbrev pub mode_first : ℕ
mode_first = 12

-- an end without a function
abbrev pub no_function : ℕ
no_function = 13

-- a home function that the end has not
abbrev pub home_not_had : ℕ
home_not_had = 14

-- "PCM b5 or b6 is set without item 1 in the same function"
abbrev pub pcm_alone : ℕ
pcm_alone = 15

-- what a text lacks
abbrev pub no_caller : ℕ
no_caller = 16

abbrev pub no_answerer : ℕ
no_answerer = 17

abbrev pub no_call : ℕ
no_call = 18

-- a function that the caller has not
abbrev pub call_not_had : ℕ
call_not_had = 19

-- behind `blocks` and `sends`, or the mistakes that they do not come: the first octet, further octets
abbrev pub first_octet : ℕ
first_octet = 20

abbrev pub octets : ℕ
octets = 21

-- a CM that is given, beside something else that is said of the call
abbrev pub sends_alone : ℕ
sends_alone = 22

-- behind `cadence`: how many sequences an on period has, and behind that how many bit times an off period has
abbrev pub after_cadence : ℕ
after_cadence = 23

abbrev pub after_on : ℕ
after_on = 24

-- behind `answers`: when the answerer does
abbrev pub after_answers : ℕ
after_answers = 25

-- the number of the names behind which octets stand: that of the line for blocks, and that of the part for a CM; no name has a number above 15
abbrev pub octets_behind : ℕ
octets_behind = 8

-- the number of the name behind which a cadence stands
abbrev pub cadence_behind : ℕ
cadence_behind = 9

-- the number of the name behind which the time of the answer stands
abbrev pub answers_behind : ℕ
answers_behind = 10

-- the cadence of a text that gives none: half a second on, one and a half off
abbrev pub default_on : ℕ
default_on = 5

abbrev pub default_off : ℕ
default_off = 450

-- when ANSam begins in a text that gives no time: the answerer is on the line from the first on
abbrev pub default_answer : ℕ
default_answer = 200

-- in place of a function: the caller's record is not known, and the text gives its CM; no function has this number
abbrev pub stranger : ℕ
stranger = 7

-- a plan of these sets: of each end eight, the caller's first; what it wants and what its line is, then each function's modes, with 0 in the set
-- where the end has it, and last, as a number, its home function; of no cadence, and of no time of the answer
abbrev pub planned : List ℕ → ℕ → ℕ → Plan
planned sets function te = record { sets = sets; function = function; te = te; on = 0; off = 0; answers = 0 }

-- a plan with other sets, with another function and Te, with another cadence, with another time of the answer
abbrev pub with_sets : Plan → List ℕ → Plan
with_sets plan sets = record { sets = sets; function = plan.function; te = plan.te; on = plan.on; off = plan.off; answers = plan.answers }

abbrev pub with_call : Plan → ℕ → ℕ → Plan
with_call plan function te = record { sets = plan.sets; function = function; te = te; on = plan.on; off = plan.off; answers = plan.answers }

abbrev pub with_cadence : Plan → ℕ → ℕ → Plan
with_cadence plan on off = record { sets = plan.sets; function = plan.function; te = plan.te; on = on; off = off; answers = plan.answers }

abbrev pub with_answer : Plan → ℕ → Plan
with_answer plan answers = record { sets = plan.sets; function = plan.function; te = plan.te; on = plan.on; off = plan.off; answers = answers }

-- a mistake
abbrev pub mistaken : Reading → ℕ → Reading
mistaken r what = record { plan = r.plan; end = r.end; function = r.function; first = r.first; context = r.context; what = Some what }

-- a mistake where there is one
abbrev pub or_mistaken : Reading → Option ℕ → Reading → Reading
or_mistaken r (Some what) right = mistaken r what
or_mistaken r None right = right

-- what may come next
abbrev pub going : Reading → ℕ → Reading
going r context = record { plan = r.plan; end = r.end; function = r.function; first = r.first; context = context; what = r.what }

-- a line that is about an end, or about none
abbrev pub begin_line : Reading → ℕ → ℕ → Reading
begin_line r end context = record { plan = r.plan; end = end; function = 0; first = 0; context = context; what = r.what }

-- where one of the eight sets of an end stands
abbrev pub place : ℕ → ℕ → ℕ
place end k = when (end == 1) (k % 8) (8 + k % 8)

abbrev pub home : ℕ
home = 7

abbrev pub set_at : Plan → ℕ → ℕ → ℕ
set_at plan end k = slice_index plan.sets (place end k)

-- the line's end with one of its sets anew; modes behind it belong to the function, and the first function that the line names
abbrev pub store : Reading → ℕ → ℕ → ℕ → ℕ → Reading
store r k numbers function first = record {
  plan = with_sets r.plan (slice_set r.plan.sets (place r.end k) numbers);
  end = r.end;
  function = function;
  first = first;
  context = in_end;
  what = r.what;
}

-- a set with one number more
abbrev pub added : ℕ → ℕ → ℕ
added numbers n = when (nat_lt n 16) ((numbers + 2 ^ n) % 65536) numbers

-- a number is said of a function, or at 0 of the end, and not twice
unfoldable pub say : Reading → ℕ → ℕ → ℕ → ℕ → Reading
say r k n function first =
    when (in_set (set_at r.plan r.end k) n) (mistaken r twice)
    (store r k (added (set_at r.plan r.end k) n) function first)

-- the first of two functions that is one
abbrev pub first_of : ℕ → ℕ → ℕ
first_of first function = when (first == 0) function first

unfoldable pub name_function : Reading → ℕ → Reading
name_function r function = say r function 0 function (first_of r.first function)

-- the home function is named once
unfoldable pub name_home : Reading → ℕ → Reading
name_home r function = when (nat_lt 0 (set_at r.plan r.end home)) (mistaken r twice) (store r home function 0 r.first)

-- a mode belongs to the function before it
unfoldable pub name_mode : Reading → ℕ → Reading
name_mode r n = when (r.function == 0) (mistaken r mode_first) (say r r.function n r.function r.first)

-- the caller is known, and the function called, and the caller has not that function
unfoldable pub lacks_call : Plan → Bool
lacks_call plan = both (nat_lt 0 (set_at plan 1 home)) (both (nat_lt 0 plan.function) (set_at plan 1 plan.function % 2 == 0))

-- a call with this function and Te, and what may come next; or the mistake that it cannot be made
unfoldable pub planning : Reading → ℕ → ℕ → ℕ → Reading
planning r function te context = record {
  plan = with_call r.plan function te;
  end = r.end;
  function = r.function;
  first = r.first;
  context = context;
  what = when (lacks_call (with_call r.plan function te)) (Some call_not_had) r.what;
}

-- a cadence, as far as it is said, and what may come next
unfoldable pub cadenced : Reading → ℕ → ℕ → ℕ → Reading
cadenced r on off context = record {
  plan = with_cadence r.plan on off;
  end = r.end;
  function = r.function;
  first = r.first;
  context = context;
  what = r.what;
}

-- when the answerer answers, and what may come next
unfoldable pub answering : Reading → ℕ → ℕ → Reading
answering r answers context = record {
  plan = with_answer r.plan answers;
  end = r.end;
  function = r.function;
  first = r.first;
  context = context;
  what = r.what;
}

-- all that is said of an end, as a sum: 0 where nothing is
abbrev pub all_said : Plan → ℕ → ℕ
all_said plan end =
    set_at plan end 0 + set_at plan end 1 + set_at plan end 2 + set_at plan end 3 + set_at plan end 4 + set_at plan end 5 + set_at plan end 6 + set_at plan end 7

-- in the caller's line, with nothing said of the caller, and no function called
abbrev pub nothing_yet : Reading → Bool
nothing_yet r = both (r.end == 1) (both (all_said r.plan 1 == 0) (r.plan.function == 0))

-- a CM that is given stands alone
abbrev pub name_cm : Reading → Reading
name_cm r = when (nothing_yet r) (planning r stranger r.plan.te first_octet) (mistaken r sends_alone)

-- a part of an end's line: what may come next has the number of its name, but for a CM
unfoldable pub part_word : Reading → ℕ → Reading
part_word r part = when (part == octets_behind) (name_cm r) (going r part)

-- a word of an end's line
unfoldable pub end_word : Reading → Meaning → Reading
end_word r m =
    when (m.kind == function) (name_function r m.number)
    (when (m.kind == mode) (name_mode r m.number)
    (when (m.kind == other_mode) (name_mode r m.number)
    (when (m.kind == quality) (say r 0 m.number 0 r.first)
    (when (m.kind == part) (part_word r m.number)
    (mistaken r in_end)))))

-- the caller's CM is given
abbrev pub is_stranger : Plan → Bool
is_stranger plan = plan.function == stranger

-- a line with this name stands in the text already; those for damaged bits and for blocks may stand again
unfoldable pub is_said : Plan → ℕ → Bool
is_said plan number =
    when (number == after_call) (nat_lt 0 plan.function)
    (when (number == after_te) (nat_lt 0 plan.te)
    (when (number == after_damaged) false
    (when (number == octets_behind) false
    (when (number == cadence_behind) (nat_lt 0 plan.on)
    (when (number == answers_behind) (nat_lt 0 plan.answers)
    (when (number == 1) (either (is_stranger plan) (nat_lt 0 (set_at plan number home)))
    (nat_lt 0 (set_at plan number home))))))))

abbrev pub begin_named : Reading → ℕ → ℕ → ℕ → Reading
begin_named r name end context = when (is_said r.plan name) (mistaken r twice) (begin_line r end context)

-- what may come next behind the name of a line that is about no end: that has the number of the name, but for blocks, a cadence and the answer
abbrev pub behind_name : ℕ → ℕ
behind_name name = when (name == octets_behind) first_octet (when (name == cadence_behind) after_cadence (when (name == answers_behind) after_answers name))

-- the first word of a line
unfoldable pub first_word : Reading → Meaning → Reading
first_word r m =
    when (m.kind == end) (begin_named r m.number m.number in_end)
    (when (m.kind == line) (begin_named r m.number 0 (behind_name m.number))
    (mistaken r beginning))

abbrev pub name_call : Reading → ℕ → Reading
name_call r function = planning r function r.plan.te done

-- a function where one is asked for: the home function, or the one called
unfoldable pub function_word : Reading → ℕ → Reading
function_word r function =
    when (r.context == after_home) (name_home r function)
    (when (r.context == after_call) (name_call r function)
    (mistaken r r.context))

-- a word that names something
unfoldable pub name_word : Reading → Meaning → Reading
name_word r m =
    when (r.context == in_end) (end_word r m)
    (when (r.context == beginning) (first_word r m)
    (when (m.kind == function) (function_word r m.number)
    (when (m.kind == wanted) (when (r.context == after_wants) (say r 0 m.number 0 r.first) (mistaken r r.context))
    (when (m.kind == end) (when (r.context == after_damaged) (begin_line r m.number first_bit) (mistaken r r.context))
    (mistaken r r.context)))))

abbrev pub te_word : Reading → ℕ → Reading
te_word r te = when (is_te te) (planning r r.plan.function te done) (mistaken r after_te)

-- an on period that may be: it is tested beside an off period that may
abbrev pub is_on : ℕ → Bool
is_on on = is_cadence on default_off

abbrev pub on_word : Reading → ℕ → Reading
on_word r on = when (is_on on) (cadenced r on r.plan.off after_on) (mistaken r after_cadence)

abbrev pub off_word : Reading → ℕ → Reading
off_word r off = when (is_cadence r.plan.on off) (cadenced r r.plan.on off done) (mistaken r after_on)

-- a time at which an answerer may answer
abbrev pub is_answer : ℕ → Bool
is_answer answers = in_range 200 20000 answers

abbrev pub answer_word : Reading → ℕ → Reading
answer_word r answers = when (is_answer answers) (answering r answers done) (mistaken r after_answers)

-- an entry of a list: none above the last that may be
abbrev pub listed : Reading → ℕ → ℕ → ℕ → Reading
listed r last n context = when (nat_lt last n) (mistaken r r.context) (going r context)

-- a call is rehearsed for 9,000 bits, 30 seconds
abbrev pub bit_word : Reading → ℕ → Reading
bit_word r time = listed r 8999 time bits

-- an octet, or a word that is none
abbrev pub octet_word : Reading → Option ℕ → Reading
octet_word r (Some n) = going r octets
octet_word r None = mistaken r r.context

-- the first of a list may come next, or one behind it
abbrev pub one_of : ℕ → ℕ → ℕ → Bool
one_of context first further = either (context == first) (context == further)

abbrev pub at_bits : Reading → Bool
at_bits r = one_of r.context first_bit bits

abbrev pub at_octets : Reading → Bool
at_octets r = one_of r.context first_octet octets

-- a number where one is asked for
abbrev pub at_number : Reading → Bool
at_number r = either (r.context == after_te) (either (r.context == after_cadence) (either (r.context == after_on) (either (r.context == after_answers) (at_bits r))))

unfoldable pub number_word : Reading → ℕ → Reading
number_word r n =
    when (r.context == after_te) (te_word r n)
    (when (r.context == after_cadence) (on_word r n)
    (when (r.context == after_on) (off_word r n)
    (when (r.context == after_answers) (answer_word r n)
    (bit_word r n))))

-- and a word that is none is a mistake
abbrev pub asked_number : Reading → Option ℕ → Reading
asked_number r (Some n) = number_word r n
asked_number r None = mistaken r r.context

-- and one that names nothing is a mistake
abbrev pub named_word : Reading → Option Meaning → Reading
named_word r (Some m) = name_word r m
named_word r None = mistaken r r.context

unfoldable pub read_word : Reading → List ℕ → Reading
read_word r text =
    when (at_number r) (asked_number r (number text))
    (when (at_octets r) (octet_word r (octet text))
    (named_word r (named text)))

-- what a set says of a function: 0 in it that it is named, 1 to 12 its items, from 13 on its PCM options
abbrev pub modes_of : ℕ → Modes
modes_of numbers = record { available = numbers % 2; pcm = numbers / 8192; items = numbers % 8192 / 2 * 2 }

-- the record of an end
unfoldable pub record_of : Plan → ℕ → Record
record_of plan end = record {
  functions = modes_of (set_at plan end 1) ∷ modes_of (set_at plan end 2) ∷ modes_of (set_at plan end 3) ∷ modes_of (set_at plan end 4) ∷ modes_of (set_at plan end 5) ∷ modes_of (set_at plan end 6) ∷ [];
  home = set_at plan end home % 8;
  lapm = set_at plan end 0 % 2;
  access = set_at plan end 0 / 2 % 2;
  cellular = set_at plan end 0 / 4 % 2;
  digital = set_at plan end 0 / 8 % 2;
}

-- what is wrong with a record, where something is
unfoldable pub record_mistake : Record → Option ℕ
record_mistake own =
    when (own.home == 0) (Some no_function)
    (when ((in_use own own.home).available == 1) (when (bad_record own) (Some pcm_alone) None) (Some home_not_had))

-- the first function that an end's line names is the home function where no other is
unfoldable pub with_home : Reading → Reading
with_home r = when (nat_lt 0 (set_at r.plan r.end home)) r (store r home r.first 0 r.first)

-- the end of an end's line
unfoldable pub finish_end : Reading → Reading
finish_end r =
    or_mistaken (with_home r) (record_mistake (record_of (with_home r).plan (with_home r).end))
    (planning (with_home r) (with_home r).plan.function (with_home r).plan.te beginning)

-- a line may end where this may come next
abbrev pub may_end : ℕ → Bool
may_end context = either (context == beginning) (either (context == bits) (either (context == octets) (context == done)))

-- the end of a line
unfoldable pub finish_line : Reading → Reading
finish_line r = when (r.context == in_end) (finish_end r) (when (may_end r.context) (going r beginning) (mistaken r r.context))

-- where a byte stands: between words, in a word, in a comment
abbrev pub between : Scan
between = Between

abbrev pub in_word : Scan
in_word = InWord

abbrev pub in_comment : Scan
in_comment = InComment

abbrev pub is_between : Scan → Bool
is_between Between = true
is_between InWord = false
is_between InComment = false

abbrev pub is_comment : Scan → Bool
is_comment Between = false
is_comment InWord = false
is_comment InComment = true

-- where the byte behind a byte stands
unfoldable pub scan_after : Scan → ℕ → Scan
scan_after scan b = when (b == line_feed) between (when (is_comment scan) in_comment (when (b == comment) in_comment (when (blank b) between in_word)))

abbrev pub begins_word : Scan → ℕ → Bool
begins_word scan b = when (ends_word b) false (is_between scan)

-- a byte with what follows it: the end of a line, a word, or nothing
unfoldable pub read_byte : Reading → Scan → ℕ → List ℕ → Reading
read_byte r scan b rest = when (b == line_feed) (finish_line r) (when (begins_word scan b) (read_word r (word (b ∷ rest))) r)

abbrev pub no_plan : Plan
no_plan = planned (replicate 16 0) 0 0

-- nothing is read
abbrev pub fresh : Reading
fresh = record { plan = no_plan; end = 0; function = 0; first = 0; context = beginning; what = None }

-- a text that is no plan has this mistake at a place
abbrev pub mistake : ℕ → ℕ → Result Plan Mistake
mistake what at = Err (record { what = what; at = at })

abbrev pub unless : Option ℕ → ℕ → Result Plan Mistake → Result Plan Mistake
unless (Some what) at right = mistake what at
unless None at right = right

-- what a text lacks that was read to its end, where it lacks something
unfoldable pub missing : Plan → Option ℕ
missing plan = when (is_said plan 1) (when (is_said plan 2) (when (is_said plan after_call) None (Some no_call)) (Some no_answerer)) (Some no_caller)

-- a plan that gives no Te has that of a start without a value, one that gives no cadence has that of the house, and
-- without a time of the answer the answerer is on the line from the first on
abbrev pub with_default : Plan → Plan
with_default plan = record {
  sets = plan.sets;
  function = plan.function;
  te = when (plan.te == 0) default_te plan.te;
  on = when (plan.on == 0) default_on plan.on;
  off = when (plan.off == 0) default_off plan.off;
  answers = when (plan.answers == 0) default_answer plan.answers;
}

-- a text that was read to its end: its last line, then what is missing
unfoldable pub finished : Reading → ℕ → Result Plan Mistake
finished r at = unless (finish_line r).what at (unless (missing (finish_line r).plan) at (Ok (with_default (finish_line r).plan)))

-- a text from a place on: up to the first mistake, or to its end
unfoldable pub read_from : Reading → Scan → ℕ → List ℕ → Result Plan Mistake
read_from r scan at [] = finished r at
read_from r scan at (b ∷ rest) = unless (read_byte r scan b rest).what at (read_from (read_byte r scan b rest) (scan_after scan b) (at + 1) rest)

-- a text is a plan, or the first mistake in it with its place
abbrev pub read_text : List ℕ → Result Plan Mistake
read_text text = read_from fresh between 0 text

-- the place of a bit of an end among the bits of both
abbrev pub bit_place : ℕ → ℕ → ℕ
bit_place end time = when (end == 1) time (9000 + time)

-- a damaged bit stands at a byte
abbrev pub is_bit : Reading → Scan → ℕ → Bool
is_bit r scan b = both (begins_word scan b) (at_bits r)

-- a bit that a text says is damaged is marked where there is a place for it
abbrev pub mark_at : ℕ → Option ℕ → List ℕ → List ℕ
mark_at end (Some time) damaged = slice_set damaged (bit_place end time) 1
mark_at end None damaged = damaged

abbrev pub marked_bit : Reading → Scan → ℕ → List ℕ → List ℕ → List ℕ
marked_bit r scan b rest damaged = when (is_bit r scan b) (mark_at r.end (number (word (b ∷ rest))) damaged) damaged

unfoldable pub marked_from : Reading → Scan → List ℕ → List ℕ → List ℕ
marked_from r scan [] damaged = damaged
marked_from r scan (b ∷ rest) damaged = marked_from (read_byte r scan b rest) (scan_after scan b) rest (marked_bit r scan b rest damaged)

-- the damaged bits of a text that is a plan
unfoldable pub marked : List ℕ → List ℕ → List ℕ
marked text damaged = when (is_ok (read_text text)) (marked_from fresh between text damaged) damaged

-- an octet of an end's line stands at a byte, or one of a line that is about none
abbrev pub is_octet : ℕ → Reading → Scan → ℕ → Bool
is_octet end r scan b = both (both (begins_word scan b) (at_octets r)) (r.end == end)

-- which it is, or none
abbrev pub octet_at : ℕ → Reading → Scan → ℕ → List ℕ → Option ℕ
octet_at end r scan b rest = when (is_octet end r scan b) (octet (word (b ∷ rest))) None

-- a list of one octet, and an empty list where there is none
abbrev pub one_octet : Option ℕ → List ℕ
one_octet (Some n) = n ∷ []
one_octet None = []

unfoldable pub octets_from : ℕ → Reading → Scan → List ℕ → List ℕ
octets_from end r scan [] = []
octets_from end r scan (b ∷ rest) = one_octet (octet_at end r scan b rest) ++ octets_from end (read_byte r scan b rest) (scan_after scan b) rest

-- the octets of an end's line, or of lines about none, in a text that is a plan
unfoldable pub octets_in : ℕ → List ℕ → List ℕ
octets_in end text = when (is_ok (read_text text)) (octets_from end fresh between text) []

-- the octets of the caller's blocks, and those of the CM that a stranger sends
abbrev pub blocks_in : List ℕ → List ℕ
blocks_in text = octets_in 0 text

abbrev pub cm_in : List ℕ → List ℕ
cm_in text = octets_in 1 text
