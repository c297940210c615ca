-- A fresh reader of a long stretch of an accepted message reports it and nothing else: the sequence that was cut is passed over, the first
-- whole copy and ten 1s fit in, and the reports are the first of those on more copies, which are all that message. No flag stands in it.
-- Assumes nothing.
use Prim.Native.Nat.{ℕ, zero, suc, ◌<◌, ◌≤◌, ◌+◌, ◌*◌, ◌-◌}
use native.Mathlib.Omega.{arith}
use mathlib.Core.Path.{◌≡◌, refl, sym, ap, ◌∙◌}
use mathlib.Core.Bool.{false}
use mathlib.Core.List.{List, [], ◌∷◌, ◌++◌, append_assoc}
use lib.ListN.{length, take, drop, replicate, length-append, length-drop, take-append-drop}
use lib.Seq.{take-append-add}
use Rattle.octets.specs.declared.Kind.{Kind}
use Rattle.sequences.specs.Line.{framed_all, ten_ones, sync, sequence, copies, cj}
use Rattle.sequences.proofs.Lines.{sequence_length}
use Rattle.listening.specs.Record.{fresh}
use Rattle.stretches.specs.Stretch.{AcceptedMessage, stretch, Long, Nowhere, flag}
use Rattle.stretches.specs.Hearing.{Report, message_of, repeated, Reads}
use Rattle.stretches.proofs.Each.{Each, each_drop, each_take}
use Rattle.stretches.proofs.Standing.{nowhere_take, nowhere_drop}
use Rattle.stretches.proofs.Sound.{Sound, accepted_sound}
use Rattle.stretches.proofs.Words.{start, no_flag, no_cj, no_start}
use Rattle.stretches.proofs.Plain.{plain, after, plain_append, fresh_plain}
use Rattle.stretches.proofs.Flags.{by_messages, flagged_repeated}
use Rattle.stretches.proofs.Sequences.{Goes, goes_on, Idle, Held, ones_held}
use Rattle.stretches.proofs.Copies.{copies_bits, line_bits, first_copy, later_copies}
use Rattle.stretches.proofs.Hunting.{fresh_hunts}
use Rattle.stretches.proofs.Cuts.{enough, cut_at}

-- the first entries of one repeated
prefix : (xs ys : List Report) (n : ℕ) (r : Report) → xs ++ ys ≡ replicate n r → xs ≡ replicate (length xs) r
prefix [] ys n r e = refl
prefix (x ∷ xs) ys zero r e = cc
prefix (x ∷ xs) ys (suc n) r e = let first : x ≡ r = cc in let rest = prefix xs ys n r (let same : xs ++ ys ≡ replicate n r = cc in same) in cc

regroup : (a l t s f c : List ℕ) → a ++ (l ++ (t ++ s ++ f ++ c)) ≡ a ++ l ++ t ++ (s ++ f ++ c)
regroup a l t s f c = simp append_assoc

module _ (kind : Kind) (octets : List ℕ) (accepted : AcceptedMessage kind octets) where
  abbrev line : List ℕ
  line = sequence kind octets

  abbrev told : Report
  told = message_of kind octets false

  sound : Each Sound octets
  sound = accepted_sound kind octets accepted

  -- the message, perhaps again, and nothing else
  abbrev Repeats : List ℕ → Type 0
  Repeats bits = (again : ℕ) × (plain fresh bits ≡ replicate (suc again) told)

  -- a sequence that lacks its first bit and perhaps others is passed over
  passed_over : (lost : ℕ) → Goes fresh (drop (suc lost) line) [] Idle
  unfolding sequence
  passed_over lost = fresh_hunts (drop (suc lost) line) (each_drop (suc lost) line (line_bits kind octets accepted)) (nowhere_drop start lost (drop 1 line) (no_start kind octets sound))

  -- and then come copies
  cut_copies : (lost n : ℕ) → Goes fresh (drop (suc lost) line ++ copies (suc n) line) (replicate n told) (Held kind octets)
  unfolding copies
  cut_copies lost n = goes_on (passed_over lost) (λ rec idle. goes_on (first_copy kind octets accepted rec idle) (later_copies kind octets accepted n))

  -- of which the first is reported at the tenth bit behind it
  front : ℕ → List ℕ
  front lost = drop (suc lost) line ++ line ++ ten_ones

  front_told : (lost : ℕ) → plain fresh (front lost) ≡ told ∷ []
  unfolding front
  front_told lost = (goes_on (goes_on (passed_over lost) (first_copy kind octets accepted)) (ones_held kind octets)).tells

  front_length : (lost : ℕ) → lost < length line → length (front lost) < 2 * length line + 10
  unfolding front
  front_length lost few = omega (arith, length-append (drop (suc lost) line ++ line) ten_ones, length-append (drop (suc lost) line) line, length-drop (suc lost) line)

  front_stands : (lost n : ℕ) → drop (suc lost) line ++ copies (suc (suc n)) line ≡ front lost ++ (sync kind ++ framed_all octets ++ copies n line)
  unfolding front copies sequence
  front_stands lost n = regroup (drop (suc lost) line) line ten_ones (sync kind) (framed_all octets) (copies n line)

  -- what a reader reports on the first bits
  module _ (lost whole n : ℕ) (few : lost < length line) (long : Long (sequence kind octets) n) where
    abbrev bits : List ℕ
    bits = drop (suc lost) line ++ copies (suc (suc whole)) line

    abbrev rest : List ℕ
    rest = take (n - length (front lost)) (sync kind ++ framed_all octets ++ copies whole line)

    starts_with : take n bits ≡ front lost ++ rest
    starts_with =
        let size : n ≡ length (front lost) + (n - length (front lost)) = omega (arith, front_length lost few) in
        ap (λ (l : List ℕ). take n l) (front_stands lost whole) ∙ ap (λ (k : ℕ). take k (front lost ++ (sync kind ++ framed_all octets ++ copies whole line))) size
        ∙ take-append-add (front lost) (sync kind ++ framed_all octets ++ copies whole line) (n - length (front lost))

    tells_first : plain fresh (take n bits) ≡ told ∷ plain (after fresh (front lost)) rest
    tells_first = ap (plain fresh) starts_with ∙ plain_append fresh (front lost) rest ∙ ap (λ (l : List Report). l ++ plain (after fresh (front lost)) rest) (front_told lost)

    tells_one : plain fresh (take n bits) ≡ replicate (length (plain fresh (take n bits))) told
    tells_one =
        prefix (plain fresh (take n bits)) (plain (after fresh (take n bits)) (drop n bits)) (suc whole) told
        (sym (plain_append fresh (take n bits) (drop n bits)) ∙ ap (plain fresh) (take-append-drop n bits) ∙ (cut_copies lost (suc whole)).tells)

    tells_all : Repeats (take n bits)
    tells_all = (length (plain (after fresh (front lost)) rest), tells_one ∙ ap (λ (l : List Report). replicate (length l) told) tells_first)

  -- a stretch is as long as it says, so there are two copies at least behind its first part
  some : 0 < length line
  some = omega (arith, sequence_length kind octets)

  by_whole : (n lost whole : ℕ) → lost < length line → Long (sequence kind octets) n → n ≤ length (drop (suc lost) line ++ copies whole line) → Repeats (take n (drop (suc lost) line ++ copies whole line))
  unfolding copies
  by_whole n lost zero few long enough-bits = absurd (omega (arith, length-append (drop (suc lost) line) [], length-drop (suc lost) line))
  by_whole n lost (suc zero) few long enough-bits = absurd (omega (arith, length-append (drop (suc lost) line) (line ++ []), length-append line [], length-drop (suc lost) line))
  by_whole n lost (suc (suc whole)) few long enough-bits = tells_all lost whole n few long

  stretch_told : (cut n : ℕ) → Long (sequence kind octets) n → Repeats (stretch line cut n)
  stretch_told cut n long =
      let parted = cut_at line some (cut + n) cut in
      rw parted.is (by_whole n parted.lost parted.whole parted.few long (rw parted.is at (enough line some cut n)))

  pub stretch_read : (cut n : ℕ) → Long (sequence kind octets) n → Reads kind octets (stretch (sequence kind octets) cut n)
  stretch_read cut n long =
      let all = copies (cut + n) line in
      let bits = each_take n (drop cut all) (each_drop cut all (copies_bits kind octets accepted (cut + n))) in
      let never = nowhere_take cj n (drop cut all) (nowhere_drop cj cut all (no_cj kind octets sound (cut + n))) in
      let tells = stretch_told cut n long in
      record { again = tells.0; all = by_messages (stretch line cut n) (replicate (suc tells.0) told) (fresh_plain (stretch line cut n) bits never ∙ tells.1) ∙ flagged_repeated kind octets accepted (suc tells.0) }

  pub flag_nowhere : (cut n : ℕ) → Nowhere flag (stretch (sequence kind octets) cut n)
  flag_nowhere cut n =
      let all = copies (cut + n) line in
      nowhere_take flag n (drop cut all) (nowhere_drop flag cut all (no_flag kind octets sound (cut + n)))

-- the same bits are read as one message
pub read_as_one : (kind kind' : Kind) (octets octets' bits : List ℕ) → Reads kind octets bits → Reads kind' octets' bits → (kind ≡ kind') × (octets ≡ octets')
read_as_one kind kind' octets octets' bits read read' =
    let same : repeated kind octets (suc read.again) ≡ repeated kind' octets' (suc read'.again) = sym read.all ∙ read'.all in
    (cc, cc)
