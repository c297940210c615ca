-- What a reader that does not listen for CJ makes of a whole sequence: from hunting, and behind another sequence. Piece by piece: ten 1s
-- lead to `Primed`, a sync from there to `Held` with no octets, and each octet in its frame to `Held` with one more.
-- Assumes nothing.
use Prim.Native.Nat.{ℕ, ◌<◌, ◌≤◌, ◌+◌, ◌*◌}
use native.Mathlib.Numerals.{add-one}
use native.Mathlib.Nat.{mod-eq_of_lt}
use native.Mathlib.Omega.{arith}
use mathlib.Core.Path.{◌≡◌, refl, sym, ap, ap₂, subst, ◌∙◌}
use mathlib.Core.Bool.{false}
use mathlib.Core.List.{List, [], ◌∷◌, ◌++◌, append_assoc, append-nil}
use borrow.Author.Tests.{eq-eqb, ne_eqb}
use lib.Dec.{ltb, eqb, eqb→eq}
use lib.ListN.{length, take, set, length-append, length-set}
use lib.Seq.{take-suc-set}
use Rattle.laws.specs.Logic.{when, both}
use Rattle.laws.specs.Tests.{all_below, every}
use Rattle.laws.proofs.Computed.{below}
use Rattle.octets.specs.declared.Kind.{Kind}
use Rattle.octets.specs.declared.Kind.TheVariants.{Ci, Menu}
use Rattle.octets.specs.Octets.{bad, b0, b1, b2, b3, b4, b5, b6, b7}
use Rattle.sequences.specs.Line.{framed, framed_all, ten_ones, sync, sequence}
use Rattle.listening.specs.declared.Message.{Message}
use Rattle.listening.specs.declared.Listener.{Listener}
use Rattle.framing.specs.Framing.{pushed, last_ten, octet_of, in_sync, boundary, go, hunted, synced, bounded, stopped, ended, placed}
use Rattle.listening.specs.Hearing.{span_of, changed, reported, told, told_alone, acted}
use Rattle.framing.proofs.Places.{start_of}
use Rattle.framing.proofs.Words.{hearing}
use Rattle.stretches.specs.Hearing.{Report, message, message_of}
use Rattle.stretches.specs.Heard.{coded}
use Rattle.stretches.proofs.Each.{Each, none, more, Bits, bits_by}
use Rattle.stretches.proofs.Sound.{Sound, sound_shape}
use Rattle.framing.specs.Framing.{value}
use Rattle.stretches.proofs.Past.{Small, hearing_small, hearing_append, ten_heard}
use Rattle.stretches.proofs.Plain.{plain, after, plain_append, after_append}

-- bits that bring these reports, and leave such a record
pub record Goes (rec : Listener) (bits : List ℕ) (brings : List Report) (Left : Listener → Type 0) : Type 0 where
  pub tells : plain rec bits ≡ brings
  pub leaves : Left (after rec bits)

pub goes_on : {rec : Listener} {a b : List ℕ} {brings brings' : List Report} {Mid Left : Listener → Type 0} → Goes rec a brings Mid → ((next : Listener) → Mid next → Goes next b brings' Left) → Goes rec (a ++ b) (brings ++ brings') Left
goes_on {rec} {a} {b} {brings} {brings'} {Mid} {Left} first then =
    let second = then (after rec a) first.leaves in
    record {
      tells = plain_append rec a b ∙ ap (λ (l : List Report). l ++ plain (after rec a) b) first.tells ∙ ap (λ (l : List Report). brings ++ l) second.tells;
      leaves = subst Left (sym (after_append rec a b)) second.leaves;
    }

pub goes_with : {rec : Listener} {a : List ℕ} {brings : List Report} {Mid Left : Listener → Type 0} → Goes rec a brings Mid → ((next : Listener) → Mid next → Left next) → Goes rec a brings Left
goes_with {rec} {a} first then = record { tells = first.tells; leaves = then (after rec a) first.leaves }

-- a record at this place, with this past and this message
pub data At (place past : ℕ) (msg : Message) : Listener → Type 0 where
  here : (heard : ℕ) (last : Message) → At place past msg (record { ear = record { past = past; heard = heard; place = place }; msg = msg; last = last })

-- a message that is being heard
abbrev pub holding : Kind → ℕ → List ℕ → Message
holding kind len array = record { kind = coded kind; len = len; octets = array }

-- ten 1s: nothing while hunting, and the end of a sequence at an octet boundary
ones_hunting : (past : ℕ) (msg : Message) {rec : Listener} → At 0 past msg rec → Goes rec ten_ones [] (At 0 (hearing past ten_ones) msg)
unfolding plain after acted placed hunted told told_alone changed when both
ones_hunting past msg (here heard last) = record { tells = refl; leaves = here _ _ }

ones_ending : (kind : Kind) (past len : ℕ) (array : List ℕ) {rec : Listener} → At 10 past (holding kind len array) rec → Goes rec ten_ones (message kind (take len array) false (span_of len) ∷ []) (At 0 (hearing past ten_ones) (holding kind len array))
unfolding plain after acted placed bounded ended told told_alone reported changed when both
ones_ending Ci past len array (here heard last) = record { tells = refl; leaves = here _ _ }
ones_ending Menu past len array (here heard last) = record { tells = refl; leaves = here _ _ }

-- a sync behind ten 1s, its first bit, the eight between and its last
pub hunted_on : (past : ℕ) → last_ten past ≡ value ten_ones → hunted past 0 ≡ in_sync
unfolding hunted when both
hunted_on past e = simp (eq-eqb _ _ e)

sync_first : (past : ℕ) (msg : Message) {rec : Listener} → last_ten past ≡ value ten_ones → At 0 past msg rec → Goes rec (0 ∷ []) [] (At 1 (pushed past 0) msg)
unfolding plain after acted placed told told_alone changed when
sync_first past msg e (here heard last) = record { tells = refl; leaves = rw (hunted_on past e) (here _ last) }

abbrev between : Kind → List ℕ
between Ci = 0 ∷ 0 ∷ 0 ∷ 0 ∷ 0 ∷ 0 ∷ 0 ∷ 0 ∷ []
between Menu = 0 ∷ 0 ∷ 0 ∷ 0 ∷ 0 ∷ 1 ∷ 1 ∷ 1 ∷ []

sync_between : (kind : Kind) (past : ℕ) (msg : Message) {rec : Listener} → At 1 past msg rec → Goes rec (between kind) [] (At 9 (hearing past (between kind)) msg)
unfolding plain after acted placed told told_alone changed when
sync_between Ci past msg (here heard last) = record { tells = refl; leaves = here _ last }
sync_between Menu past msg (here heard last) = record { tells = refl; leaves = here _ last }

pub synced_as : (kind : Kind) (past : ℕ) → last_ten past ≡ value (sync kind) → synced past ≡ go boundary (start_of kind)
unfolding synced when
synced_as Ci past e = simp (eq-eqb _ _ e)
synced_as Menu past e = simp e

sync_last : (kind : Kind) (past : ℕ) (msg : Message) {rec : Listener} → last_ten (pushed past 1) ≡ value (sync kind) → At 9 past msg rec → Goes rec (1 ∷ []) [] (At 10 (pushed past 1) (holding kind 0 msg.octets))
unfolding plain after acted placed told told_alone changed when
sync_last Ci past msg e (here heard last) = record { tells = rw (synced_as Ci (pushed past 1) e); leaves = rw (synced_as Ci (pushed past 1) e) (here _ last) }
sync_last Menu past msg e (here heard last) = record { tells = rw (synced_as Menu (pushed past 1) e); leaves = rw (synced_as Menu (pushed past 1) e) (here _ last) }

-- an octet: its start bit and data bits, and its stop bit
abbrev unstopped : ℕ → List ℕ
unstopped b = 0 ∷ b0 b ∷ b1 b ∷ b2 b ∷ b3 b ∷ b4 b ∷ b5 b ∷ b6 b ∷ b7 b ∷ []

octet_data : (b past : ℕ) (msg : Message) {rec : Listener} → At 10 past msg rec → Goes rec (unstopped b) [] (At 19 (hearing past (unstopped b)) msg)
unfolding plain after acted placed bounded told told_alone changed when
octet_data b past msg (here heard last) = record { tells = refl; leaves = here _ last }

stopped_fine : (b past len : ℕ) → octet_of past ≡ b → bad b ≡ false → len < 64 → stopped past len 1 ≡ go 10 3
unfolding stopped when
stopped_fine b past len e shape room = simp (ap bad e ∙ shape, ne_eqb len 64 (λ full. omega (arith, full)))

octet_stop : (b past len : ℕ) (kind : Kind) (array : List ℕ) {rec : Listener} → octet_of (pushed past 1) ≡ b → bad b ≡ false → len < 64 → At 19 past (holding kind len array) rec → Goes rec (1 ∷ []) [] (At 10 (pushed past 1) (holding kind (len + 1) (set array len b)))
unfolding plain after acted placed told told_alone changed when
octet_stop b past len kind array e shape room (here heard last) = record {
  tells = rw (stopped_fine b (pushed past 1) len e shape room);
  leaves = rw (stopped_fine b (pushed past 1) len e shape room, e, mod-eq_of_lt room) (here _ last);
}

-- what stands on the line is bits
pub ones_bits : Bits ten_ones
unfolding every both
ones_bits = bits_by ten_ones tt

pub sync_bits : (kind : Kind) → Bits (sync kind)
unfolding every both
sync_bits Ci = bits_by (sync Ci) tt
sync_bits Menu = bits_by (sync Menu) tt

pub framed_bits : (b : ℕ) → b < 256 → Bits (framed b)
unfolding every both framed all_below
framed_bits b h = bits_by (framed b) (below (λ (n : ℕ). every (λ (bit : ℕ). ltb bit 2) (framed n)) 256 tt b h)

-- their numbers, whatever was heard before
ones_number : (past : ℕ) → Small past → last_ten (hearing past ten_ones) ≡ value ten_ones
ones_number past h = ten_heard past ten_ones h refl

sync_number : (kind : Kind) (past : ℕ) → Small past → last_ten (hearing past (sync kind)) ≡ value (sync kind)
sync_number Ci past h = ten_heard past (sync Ci) h refl
sync_number Menu past h = ten_heard past (sync Menu) h refl

pub framed_value : (b : ℕ) → b < 256 → value (framed b) ≡ 512 + 2 * b
unfolding framed both all_below
framed_value b h = eqb→eq _ _ (below (λ (n : ℕ). eqb (value (framed n)) (512 + 2 * n)) 256 tt b h)

octet_number : (b past : ℕ) → b < 256 → Small past → octet_of (hearing past (framed b)) ≡ b
unfolding framed
octet_number b past small h = omega (arith, ten_heard past (framed b) h refl ∙ framed_value b small)

-- hunting
pub record Idle (rec : Listener) : Type 0 where
  pub past : ℕ
  pub msg : Message
  pub place : At 0 past msg rec
  pub small : Small past
  pub full : length msg.octets ≡ 64

-- hunting, behind ten 1s
pub record Primed (rec : Listener) : Type 0 where
  pub idle : Idle rec
  pub ones : last_ten idle.past ≡ value ten_ones

-- at an octet boundary, behind a sync and these octets
pub record Held (kind : Kind) (octets : List ℕ) (rec : Listener) : Type 0 where
  pub past : ℕ
  pub len : ℕ
  pub array : List ℕ
  pub place : At 10 past (holding kind len array) rec
  pub small : Small past
  pub full : length array ≡ 64
  pub count : len ≡ length octets
  pub stored : take len array ≡ octets

-- behind ten 1s a record is primed
prime : (past : ℕ) (msg : Message) → Small past → length msg.octets ≡ 64 → (rec : Listener) → At 0 (hearing past ten_ones) msg rec → Primed rec
prime past msg small full rec place = record {
  idle = record { past = hearing past ten_ones; msg = msg; place = place; small = hearing_small past ten_ones small ones_bits; full = full };
  ones = ones_number past small;
}

pub ones_idle : (rec : Listener) → Idle rec → Goes rec ten_ones [] Primed
ones_idle rec idle = goes_with (ones_hunting idle.past idle.msg idle.place) (prime idle.past idle.msg idle.small idle.full)

pub ones_held : (kind : Kind) (octets : List ℕ) (rec : Listener) → Held kind octets rec → Goes rec ten_ones (message_of kind octets false ∷ []) Primed
ones_held kind octets rec held =
    subst (λ (told : Report). Goes rec ten_ones (told ∷ []) Primed) (ap₂ (λ (l : List ℕ) (n : ℕ). message kind l false (span_of n)) held.stored held.count)
    (goes_with (ones_ending kind held.past held.len held.array held.place) (prime held.past (holding kind held.len held.array) held.small held.full))

sync_whole : (kind : Kind) → (0 ∷ []) ++ between kind ++ (1 ∷ []) ≡ sync kind
sync_whole Ci = refl
sync_whole Menu = refl

sync_primed : (kind : Kind) (rec : Listener) → Primed rec → Goes rec (sync kind) [] (Held kind [])
sync_primed kind rec primed =
    let idle = primed.idle in
    let before_last = hearing (pushed idle.past 0) (between kind) in
    let whole : pushed before_last 1 ≡ hearing idle.past (sync kind) = sym (hearing_append (pushed idle.past 0) (between kind) (1 ∷ [])) ∙ ap (hearing idle.past) (sync_whole kind) in
    let small : Small (pushed before_last 1) = rw whole (hearing_small idle.past (sync kind) idle.small (sync_bits kind)) in
    subst (λ (w : List ℕ). Goes rec w [] (Held kind [])) (sync_whole kind)
    (goes_on (goes_on (sync_first idle.past idle.msg primed.ones idle.place) (λ next place. sync_between kind (pushed idle.past 0) idle.msg place))
    (λ next place.
    goes_with (sync_last kind before_last idle.msg (ap last_ten whole ∙ sync_number kind idle.past idle.small) place)
    (λ rec' at_boundary. record { past = pushed before_last 1; len = 0; array = idle.msg.octets; place = at_boundary; small = small; full = idle.full; count = refl; stored = refl })))

octet_held : (kind : Kind) (octets : List ℕ) (b : ℕ) (rec : Listener) → Sound b → length octets < 64 → Held kind octets rec → Goes rec (framed b) [] (Held kind (octets ++ b ∷ []))
unfolding framed
octet_held kind octets b rec sound room held =
    let before-stop = hearing held.past (unstopped b) in
    goes_on (octet_data b held.past (holding kind held.len held.array) held.place)
    (λ next place.
    goes_with (octet_stop b before-stop held.len kind held.array (octet_number b held.past sound.small held.small) (sound_shape sound) (omega (arith, held.count)) place)
    (λ rec' at_boundary. record {
      past = pushed before-stop 1;
      len = held.len + 1;
      array = set held.array held.len b;
      place = at_boundary;
      small = hearing_small held.past (framed b) held.small (framed_bits b sound.small);
      full = length-set held.array held.len b ∙ held.full;
      count = ap (λ (n : ℕ). n + 1) held.count ∙ sym (length-append octets (b ∷ []));
      stored = rw add-one (take-suc-set held.array held.len b (omega (arith, held.count, held.full))) ∙ ap (λ (l : List ℕ). l ++ b ∷ []) held.stored;
    }))

octets_held : (kind : Kind) (octets later : List ℕ) (rec : Listener) → Each Sound later → length octets + length later ≤ 64 → Held kind octets rec → Goes rec (framed_all later) [] (Held kind (octets ++ later))
unfolding framed_all plain after
octets_held kind octets [] rec none room held = record { tells = refl; leaves = rw append-nil held }
octets_held kind octets (b ∷ bs) rec (more sound sounds) room held =
    goes_on (octet_held kind octets b rec sound (omega arith) held)
    (λ next now-held. rw (← (append_assoc octets (b ∷ []) bs)) (octets_held kind (octets ++ b ∷ []) bs next sounds (omega (arith, length-append octets (b ∷ []))) now-held))

-- a whole sequence: silence from hunting, and behind another sequence that one's message
module _ (kind : Kind) (octets : List ℕ) (sound : Each Sound octets) (room : length octets ≤ 64) where
  behind_ones : {rec : Listener} {brings : List Report} → Goes rec ten_ones brings Primed → Goes rec (sequence kind octets) (brings ++ [] ++ []) (Held kind octets)
  unfolding sequence
  behind_ones ones = goes_on (goes_on ones (sync_primed kind)) (λ next. octets_held kind [] octets next sound (omega arith))

  pub idle_sequence : (rec : Listener) → Idle rec → Goes rec (sequence kind octets) [] (Held kind octets)
  idle_sequence rec idle = behind_ones (ones_idle rec idle)

  pub held_sequence : (kind' : Kind) (octets' : List ℕ) (rec : Listener) → Held kind' octets' rec → Goes rec (sequence kind octets) (message_of kind' octets' false ∷ []) (Held kind octets)
  held_sequence kind' octets' rec held = behind_ones (ones_held kind' octets' rec held)
