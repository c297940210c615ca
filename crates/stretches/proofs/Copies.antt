-- Accepted messages with ten 1s behind them, and copies of one: a fresh reader reports each, and nothing else. Each one's ten 1s end the one
-- before it, and the ten 1s behind them the last; CJ stands nowhere in them, so a reader that does not listen for it makes the same of them.
-- Assumes nothing.
use Prim.Native.Nat.{ℕ, zero, suc, ◌≤◌}
use mathlib.Core.Path.{◌≡◌, refl, sym, ap, ◌∙◌}
use mathlib.Core.Bool.{true, false}
use mathlib.Core.List.{List, [], ◌∷◌, ◌++◌, append_assoc, append-nil}
use lib.Dec.{lit<}
use lib.ListN.{length, take, replicate}
use Rattle.octets.specs.declared.Kind.{Kind}
use Rattle.octets.specs.declared.Kind.TheVariants.{Ci, Menu}
use Rattle.octets.specs.declared.Purpose.TheVariants.{Writing}
use Rattle.refusals.specs.Refusals.{before}
use Rattle.octets.specs.Lists.{list_fault}
use Rattle.sequences.specs.Line.{framed_all, ten_ones, sequence, copies}
use Rattle.refusals.specs.Lent.{count, room_fault}
use Rattle.refusals.proofs.Outcomes.{counted}
use Rattle.sequences.specs.Writing.{written}
use Rattle.listening.specs.declared.Listener.{Listener}
use Rattle.listening.specs.Record.{empty, fresh}
use Rattle.stretches.specs.Stretch.{octets_all, AcceptedMessage}
use Rattle.stretches.specs.Hearing.{Report, message_of, reports, nothing, earlier, flagged, Sent, none_sent, sent, line_of, messages_of, repeated}
use Rattle.stretches.proofs.Each.{Each, none, more, each_append, Bits}
use Rattle.octets.proofs.Lists.{before_none}
use Rattle.stretches.proofs.Sound.{Sound, accepted_sound, accepted_length}
use Rattle.stretches.proofs.Words.{no_cj_sent}
use Rattle.stretches.proofs.Plain.{plain, after, fresh_plain}
use Rattle.stretches.proofs.Flags.{by_messages, flagged_repeated}
use Rattle.stretches.proofs.Sequences.{Goes, goes_on, here, Idle, Primed, Held, ones_bits, sync_bits, framed_bits, ones_idle, ones_held, idle_sequence, held_sequence}

pub fresh_idle : Idle fresh
fresh_idle = record { past = 0; msg = empty; place = here 0 empty; small = lit< tt; full = refl }

module _ (kind : Kind) (octets : List ℕ) (accepted : AcceptedMessage kind octets) where
  sound : Each Sound octets
  sound = accepted_sound kind octets accepted

  room : length octets ≤ 64
  room = accepted_length kind octets accepted

  abbrev line : List ℕ
  line = sequence kind octets

  -- bits stand on the line
  octets_bits : (bs : List ℕ) → Each Sound bs → Bits (framed_all bs)
  unfolding framed_all
  octets_bits [] none = none
  octets_bits (b ∷ bs) (more sound sounds) = each_append (framed_bits b sound.small) (octets_bits bs sounds)

  pub line_bits : Bits (sequence kind octets)
  unfolding sequence
  line_bits = each_append (each_append ones_bits (sync_bits kind)) (octets_bits octets sound)

  pub copies_bits : (n : ℕ) → Bits (copies n line)
  unfolding copies
  copies_bits zero = none
  copies_bits (suc n) = each_append line_bits (copies_bits n)

  pub first_copy : (rec : Listener) → Idle rec → Goes rec line [] (Held kind octets)
  first_copy = idle_sequence kind octets sound room

  pub later_copies : (n : ℕ) (rec : Listener) → Held kind octets rec → Goes rec (copies n line) (replicate n (message_of kind octets false)) (Held kind octets)
  unfolding copies plain after
  later_copies zero rec held = record { tells = refl; leaves = held }
  later_copies (suc n) rec held = goes_on (held_sequence kind octets sound room kind octets rec held) (later_copies n)

-- messages one behind the other: each one's ten 1s end the one before it
sent_bits : (messages : Sent) → Bits (line_of messages)
sent_bits none_sent = none
sent_bits (sent kind octets accepted later) = each_append (line_bits kind octets accepted) (sent_bits later)

later_sent : (messages : Sent) (kind : Kind) (octets : List ℕ) (rec : Listener) → Held kind octets rec → Goes rec (line_of messages ++ ten_ones) (message_of kind octets false ∷ messages_of messages) Primed
later_sent none_sent kind octets rec held = ones_held kind octets rec held
later_sent (sent kind' octets' accepted later) kind octets rec held =
    rw append_assoc (goes_on (held_sequence kind' octets' (accepted_sound kind' octets' accepted) (accepted_length kind' octets' accepted) kind octets rec held) (later_sent later kind' octets'))

first_sent : (messages : Sent) (rec : Listener) → Idle rec → Goes rec (line_of messages ++ ten_ones) (messages_of messages) Primed
first_sent none_sent rec idle = ones_idle rec idle
first_sent (sent kind octets accepted later) rec idle = rw append_assoc (goes_on (first_copy kind octets accepted rec idle) (later_sent later kind octets))

pub sent_read : (messages : Sent) → reports fresh (line_of messages ++ ten_ones) ≡ flagged nothing (messages_of messages)
sent_read messages = by_messages (line_of messages ++ ten_ones) (messages_of messages) (fresh_plain (line_of messages ++ ten_ones) (each_append (sent_bits messages) ones_bits) (no_cj_sent messages) ∙ (first_sent messages fresh fresh_idle).tells)

-- copies are one message sent again and again, in front of others
module _ (kind : Kind) (octets : List ℕ) (accepted : AcceptedMessage kind octets) (others : Sent) where
  again : ℕ → Sent
  again zero = others
  again (suc n) = sent kind octets accepted (again n)

  again_line : (n : ℕ) → line_of (again n) ≡ copies n (sequence kind octets) ++ line_of others
  unfolding again copies
  again_line zero = refl
  again_line (suc n) = ap (λ (l : List ℕ). sequence kind octets ++ l) (again_line n) ∙ sym (append_assoc (sequence kind octets) (copies n (sequence kind octets)) (line_of others))

  again_told : (n : ℕ) → messages_of (again n) ≡ replicate n (message_of kind octets false) ++ messages_of others
  unfolding again
  again_told zero = refl
  again_told (suc n) = ap (λ (l : List Report). message_of kind octets false ∷ l) (again_told n)

module _ (kind : Kind) (octets : List ℕ) (accepted : AcceptedMessage kind octets) where
  alone_line : (n : ℕ) → line_of (again kind octets accepted none_sent n) ≡ copies n (sequence kind octets)
  alone_line n = again_line kind octets accepted none_sent n ∙ append-nil (copies n (sequence kind octets))

  alone_told : (n : ℕ) → messages_of (again kind octets accepted none_sent n) ≡ replicate n (message_of kind octets false)
  alone_told n = again_told kind octets accepted none_sent n ∙ append-nil (replicate n (message_of kind octets false))

  pub copies_read : (n : ℕ) → reports fresh (copies n (sequence kind octets) ++ ten_ones) ≡ repeated kind octets n
  copies_read n = rw (← (alone_line n)) (sent_read (again kind octets accepted none_sent n) ∙ ap (flagged nothing) (alone_told n) ∙ flagged_repeated kind octets accepted n)

-- copies of a CI in front of copies of a menu: the last CI is reported at the menu's ten 1s, and the menu is agreed from its second copy on
module _ (ci octets : List ℕ) (named : AcceptedMessage Ci ci) (accepted : AcceptedMessage Menu octets) where
  abbrev both_sent : ℕ → ℕ → Sent
  both_sent n m = again Ci ci named (again Menu octets accepted none_sent m) n

  -- a CI agrees with no menu behind it, as nothing does
  behind_ci : (m : ℕ) → flagged (earlier Ci ci) (replicate m (message_of Menu octets false)) ≡ flagged nothing (replicate m (message_of Menu octets false))
  unfolding flagged
  behind_ci zero = refl
  behind_ci (suc m) = refl

  ci_flagged : (n m : ℕ) → flagged (earlier Ci ci) (replicate n (message_of Ci ci false) ++ replicate m (message_of Menu octets false)) ≡ replicate n (message_of Ci ci false) ++ repeated Menu octets m
  unfolding flagged
  ci_flagged zero m = behind_ci m ∙ flagged_repeated Menu octets accepted m
  ci_flagged (suc n) m = ap (λ (l : List Report). message_of Ci ci false ∷ l) (ci_flagged n m)

  both_flagged : (n m : ℕ) → flagged nothing (replicate n (message_of Ci ci false) ++ replicate m (message_of Menu octets false)) ≡ replicate n (message_of Ci ci false) ++ repeated Menu octets m
  unfolding flagged
  both_flagged zero m = flagged_repeated Menu octets accepted m
  both_flagged (suc n) m = ap (λ (l : List Report). message_of Ci ci false ∷ l) (ci_flagged n m)

  pub ci_then_copies : (n m : ℕ) → reports fresh (copies n (sequence Ci ci) ++ (copies m (sequence Menu octets) ++ ten_ones)) ≡ replicate n (message_of Ci ci false) ++ repeated Menu octets m
  ci_then_copies n m =
      let line = again_line Ci ci named (again Menu octets accepted none_sent m) n ∙ ap (λ (l : List ℕ). copies n (sequence Ci ci) ++ l) (alone_line Menu octets accepted m) in
      let told = again_told Ci ci named (again Menu octets accepted none_sent m) n ∙ ap (λ (l : List Report). replicate n (message_of Ci ci false) ++ l) (alone_told Menu octets accepted m) in
      ap (reports fresh) (sym (append_assoc (copies n (sequence Ci ci)) (copies m (sequence Menu octets)) ten_ones) ∙ ap (λ (l : List ℕ). l ++ ten_ones) (sym line))
      ∙ sent_read (both_sent n m)
      ∙ ap (flagged nothing) told
      ∙ both_flagged n m

-- where the writer says how many bits it wrote, these stand at the front of its buffer
pub buffer_read : (kind : Kind) (octets : List ℕ) (n : ℕ) (out : List ℕ) (size : ℕ) → octets_all octets ≡ true → (written kind octets n out).answer ≡ count size
    → reports fresh (take size (written kind octets n out).buffer ++ ten_ones) ≡ repeated kind octets n
buffer_read kind octets n out size small e =
    let line = copies n (sequence kind octets) in
    let wrote = counted (before (list_fault (Writing kind) octets) (room_fault line out)) line out size e in
    let fine = before_none (list_fault (Writing kind) octets) (room_fault line out) wrote.fine in
    ap (λ (l : List ℕ). reports fresh (l ++ ten_ones)) wrote.stands ∙ copies_read kind octets (record { octet = small; taken = fine.0 }) n
