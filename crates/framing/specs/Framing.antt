-- Document 01, 'Listening': what one bit does to the ear, sentence by sentence.
use Rattle.std.specs.Prelude.{ℕ, ◌+◌, ◌*◌, ◌%◌, ◌/◌, ◌^◌, Bool, List, [], ◌∷◌, ltb, eqb}
use Rattle.laws.specs.Logic.{when, both}
use Rattle.octets.specs.declared.Kind.TheVariants.{Ci, Menu}
use Rattle.octets.specs.Octets.{bad}
use Rattle.sequences.specs.Line.{ten_ones, sync, cj}
use Rattle.framing.specs.declared.Ear.{Ear}
use Rattle.framing.specs.declared.Placed.{Placed}
use Rattle.framing.specs.declared.Turned.{Turned}

-- bits of the line as one number, the first lowest
abbrev pub value : List ℕ → ℕ
value [] = 0
value (b ∷ bs) = b + 2 * value bs

-- the last 32 bits heard, the newest on top
abbrev pub pushed : ℕ → ℕ → ℕ
pushed past bit = past / 2 + bit * 2 ^ 31

-- how many bits were heard, up to 30
unfoldable pub more : ℕ → ℕ
more heard = when (ltb heard 30) (heard + 1) heard

-- the last ten bits heard
abbrev pub last_ten : ℕ → ℕ
last_ten past = past / 2 ^ 22

-- the octet whose eight bits were heard before the last one
abbrev pub octet_of : ℕ → ℕ
octet_of past = past / 2 ^ 23 % 2 ^ 8

-- "the last 30 heard bits are CJ"
unfoldable pub is_cj : ℕ → ℕ → Bool
is_cj past heard = both (eqb (past / 2 ^ 2) (value cj)) (eqb heard 30)

-- where in the framing the next bit is: hunting; in a sync of which 1 to 9 bits were heard; at an octet boundary; in an octet of
-- which the start bit and 0 to 7 data bits were heard; at the stop position; or behind 1 to 9 ending 1s
abbrev pub hunting : ℕ
hunting = 0

abbrev pub in_sync : ℕ
in_sync = 1

abbrev pub last_of_sync : ℕ
last_of_sync = 9

abbrev pub boundary : ℕ
boundary = 10

abbrev pub in_octet : ℕ
in_octet = 11

abbrev pub stop_position : ℕ
stop_position = 19

abbrev pub ending_ones : ℕ
ending_ones = 20

abbrev pub last_of_ending : ℕ
last_of_ending = 28

-- what is to be done with the messages, or told: nothing, a sync accepted as CI or as a menu, an octet stored, a message reported,
-- CJ, or a refusal
abbrev pub nothing : ℕ
nothing = 0

abbrev pub start_ci : ℕ
start_ci = 1

abbrev pub start_menu : ℕ
start_menu = 2

abbrev pub store : ℕ
store = 3

abbrev pub report : ℕ
report = 4

abbrev pub tell_cj : ℕ
tell_cj = 5

abbrev pub refusal_act : ℕ → ℕ
refusal_act n = 16 + n

-- the refusal that such an act is: 1, 2, 3, 4, 10, otherwise 13
unfoldable pub refusal_in : ℕ → ℕ
refusal_in act =
    when (eqb act (refusal_act 1)) 1
    (when (eqb act (refusal_act 2)) 2
    (when (eqb act (refusal_act 3)) 3
    (when (eqb act (refusal_act 4)) 4
    (when (eqb act (refusal_act 10)) 10
    13))))

abbrev pub go : ℕ → ℕ → Placed
go place act = record { place = place; act = act }

-- "A 0 whose ten preceding heard bits are all 1 starts a sync."
unfoldable pub hunted : ℕ → ℕ → ℕ
hunted before bit = when (both (eqb bit 0) (eqb (last_ten before) (value ten_ones))) in_sync hunting

-- "If the ten bits from there are the CI or menu sync, octets follow and the stored octets start empty. Any other sync is passed over
-- and hunting resumes."
unfoldable pub synced : ℕ → Placed
synced past =
    when (eqb (last_ten past) (value (sync Ci))) (go boundary start_ci)
    (when (eqb (last_ten past) (value (sync Menu))) (go boundary start_menu)
    (go hunting nothing))

-- "At an octet boundary, 0 starts an octet and 1 ends the sequence."
unfoldable pub bounded : ℕ → Placed
bounded bit = when (eqb bit 0) (go in_octet nothing) (go ending_ones nothing)

-- "At the stop position: a 0 is refusal 2. With a 1 the order is CJ, then 3, then 4. All these store nothing and resume hunting;
-- otherwise the octet is stored."
unfoldable pub stopped : ℕ → ℕ → ℕ → Placed
stopped past len bit =
    when (eqb bit 0) (go hunting (refusal_act 2))
    (when (bad (octet_of past)) (go hunting (refusal_act 3))
    (when (eqb len 64) (go hunting (refusal_act 4))
    (go boundary store)))

-- "When ten 1s stand there in a row, counted from the boundary, the message is reported at the tenth, even with no octets, and hunting
-- resumes. If a 0 comes sooner, that is refusal 13 and hunting resumes; if ten 1s precede it all the same (..), it also starts a sync."
unfoldable pub ended : ℕ → ℕ → ℕ → Placed
ended place before bit =
    when (eqb bit 0) (go (hunted before bit) (refusal_act 13))
    (when (ltb place last_of_ending) (go (place + 1) nothing)
    (go hunting report))

-- the bit at its place in the framing
unfoldable pub placed : ℕ → ℕ → ℕ → ℕ → ℕ → Placed
placed place before past len bit =
    when (eqb place hunting) (go (hunted before bit) nothing)
    (when (ltb place last_of_sync) (go (place + 1) nothing)
    (when (eqb place last_of_sync) (synced past)
    (when (eqb place boundary) (bounded bit)
    (when (ltb place stop_position) (go (place + 1) nothing)
    (when (eqb place stop_position) (stopped past len bit)
    (ended place before bit))))))

abbrev pub turned_to : ℕ → ℕ → Placed → Turned
turned_to past heard t = record { ear = record { past = past; heard = heard; place = t.place }; act = t.act }

-- "CJ is reported whenever the last 30 heard bits are CJ, however they were framed." Bits that were heard bring CJ to its end only while
-- hunting or at the stop position; so hunting is next in any case, and the messages are as they were
unfoldable pub turned : Ear → ℕ → ℕ → Turned
turned ear len bit =
    turned_to (pushed ear.past bit) (more ear.heard)
    (when (is_cj (pushed ear.past bit) (more ear.heard)) (go hunting tell_cj)
    (placed ear.place ear.past (pushed ear.past bit) len bit))

-- an ear that nothing turns
abbrev pub stay : Ear → ℕ → Turned
stay ear act = record { ear = ear; act = act }

-- a byte that is no bit is refused (1) and turns nothing
abbrev pub turned_by : Ear → ℕ → ℕ → Turned
turned_by ear len bit = when (ltb 1 bit) (stay ear (refusal_act 1)) (turned ear len bit)
