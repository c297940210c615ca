-- What a span says of the bits heard: it is what was counted, and since the message stands on the line, the last so many bits of it are its sync, its octets
-- and ten 1s. A byte that is no bit reports no message.
-- Assumes nothing.
use Prim.Native.Nat.{ℕ, ◌<◌, ◌+◌, ◌-◌}
use native.Mathlib.Omega.{arith}
use mathlib.Core.Path.{◌≡◌, refl, sym, ap, subst, ◌∙◌}
use mathlib.Core.Bool.{Bool, true, false}
use mathlib.Core.List.{List, [], ◌∷◌, ◌++◌, append_assoc}
use borrow.Author.Tests.{ltb-true, ltb-false}
use lib.Dec.{ltb, eqb}
use lib.ListN.{length, take, drop, length-append}
use lib.Seq.{take-append_seam, drop-append_seam}
use Rattle.laws.specs.Logic.{when, both, either}
use Rattle.laws.specs.Tests.{same_list}
use Rattle.laws.proofs.Logic.{either_way, clash}
use Rattle.octets.specs.declared.Kind.{Kind}
use Rattle.octets.specs.Lists.{first_fault}
use Rattle.sequences.specs.Line.{framed, framed_all, ten_ones, sync, sequence}
use Rattle.sequences.specs.Line.{cj as cjBits}
use Rattle.sequences.proofs.Lines.{framed_length}
use Rattle.framing.specs.Framing.{more, is_cj, refusal_in, hunted, synced, bounded, stopped, ended, placed, turned}
use Rattle.listening.specs.declared.Listener.{Listener}
use Rattle.listening.specs.Hearing.{HearOutcome, span_of, changed, agreed, reported, told, told_alone, acted, heard_in, heard_bit}
use Rattle.listening.specs.Record.{in_range, fresh}
use Rattle.listening.specs.Spans.{Spanned, spans, spanned, last_span}
use Rattle.listening.specs.Spans as spanning
use Rattle.listening.proofs.Acts.{heard_not_a_bit}
use Rattle.listening.proofs.Ranges.{fits_range, fresh_fits, heard_inside}
use Rattle.stretches.specs.Stretch.{Ends}
use Rattle.stretches.specs.Hearing.{message, noted, reports}
use Rattle.stretches.specs.Heard.{bits_in}
use Rattle.stretches.proofs.Heard.{knows_heard}
use Rattle.stretches.proofs.Led.{sync_length, is_message, reported_stands}
use Rattle.stretches.proofs.Bytes.{bits_line, bits_among, bits_behind}
use Rattle.stretches.proofs.Spans.{last_heard, report_counted}
use Rattle.demands.specs.Heard.{line}
use Rattle.demands.specs.Spans.{Reports, BeganThere, SpansTellWhereMessagesBegan}

regroup : (a t s f u : List ℕ) → a ++ t ++ (s ++ (f ++ u)) ≡ a ++ (t ++ s ++ f ++ u)
regroup a t s f u = simp append_assoc

module _ (kind : Kind) (octets : List ℕ) (n : ℕ) (bits : List ℕ) where
  began_there : Ends (sequence kind octets ++ ten_ones) bits → n ≡ span_of (length octets) → BeganThere kind octets n bits
  unfolding sequence
  began_there stands is =
      let front = stands.0 ++ ten_ones in
      let message-bits = sync kind ++ (framed_all octets ++ ten_ones) in
      let parted : front ++ message-bits ≡ bits = regroup stands.0 ten_ones (sync kind) (framed_all octets) ten_ones ∙ stands.1 in
      let size : length message-bits ≡ n = omega (arith, is, length-append (sync kind) (framed_all octets ++ ten_ones), sync_length kind, length-append (framed_all octets) ten_ones, framed_length octets) in
      let whole : length bits ≡ length front + n = sym (ap length parted) ∙ length-append front message-bits ∙ ap (λ (k : ℕ). length front + k) size in
      let before : length bits - n ≡ length front = omega (arith, whole) in
      let taken : take (length bits - n) bits ≡ front = ap (λ (k : ℕ). take k bits) before ∙ ap (take (length front)) (sym parted) ∙ take-append_seam front message-bits in
      record {
        inside = omega (arith, whole);
        behind = (stands.0, sym taken);
        from = ap (λ (k : ℕ). drop k bits) before ∙ ap (drop (length front)) (sym parted) ∙ drop-append_seam front message-bits;
      }

module _ (bytes : List ℕ) (byte : ℕ) (kind : Kind) (octets : List ℕ) (flag : Bool) (n : ℕ) (reported-so : Reports bytes byte kind octets flag n) where
  among : line bytes ≡ line (bits_in bytes)
  among = bits_line bytes fresh (fits_range fresh fresh_fits)

  is_bit_lem : (high : Bool) → ltb 1 byte ≡ high → byte < 2
  is_bit_lem true e =
      let inside = (knows_heard (bits_in bytes) (bits_among bytes)).range in
      let refused = heard_inside (line (bits_in bytes)) byte inside ∙ heard_not_a_bit (line (bits_in bytes)) byte (ltb-true 1 byte e) in
      clash (ap is_message (sym reported-so ∙ ap (λ (o : HearOutcome). noted o.report o.rec.msg []) (ap (λ (rec : Listener). heard_bit rec byte) among ∙ refused)))
  is_bit_lem false e = omega (arith, ltb-false 1 byte e)

  low : byte < 2
  low = is_bit_lem (ltb 1 byte) refl

  stood : Ends (sequence kind octets ++ ten_ones) (bits_in bytes ++ byte ∷ []) × (n ≡ span_of (length octets))
  stood = reported_stands (bits_in bytes) (bits_among bytes) byte low kind octets flag n (subst (λ (rec : Listener). noted (heard_bit rec byte).report (heard_bit rec byte).rec.msg [] ≡ message kind octets flag n ∷ []) among reported-so)

  began_so : BeganThere kind octets n (bits_in (bytes ++ byte ∷ []))
  began_so = rw (bits_behind bytes byte low) (began_there kind octets n (bits_in bytes ++ byte ∷ []) stood.0 stood.1)

-- a span that is asked for is refused with 10, and only out of range
abbrev is_refused : Spanned → Bool
is_refused spanning.none = false
is_refused (spans n) = false
is_refused (spanning.refusal number) = true

module _ (rec : Listener) where
  out_of_range : in_range rec ≡ false → last_span rec ≡ spanning.refusal 10
  unfolding last_span when
  out_of_range e = simp e

  not_refused : in_range rec ≡ true → is_refused (last_span rec) ≡ false
  unfolding last_span spanned when
  not_refused e = simp e (either_way (λ (s : Spanned). is_refused s ≡ false) (eqb rec.last.kind 0) spanning.none (spans (span_of rec.last.len)) (λ _. refl) (λ _. refl))

pub spans_tell_where_messages_began : SpansTellWhereMessagesBegan
unfolding when both either same_list framed framed_all sequence cjBits more is_cj refusal_in hunted synced bounded stopped ended placed turned changed agreed reported told told_alone acted heard_in reports first_fault
spans_tell_where_messages_began = record {
  counts = report_counted;
  began = began_so;
  number = λ bytes byte kind octets flag n so. (stood bytes byte kind octets flag n so).1;
  example = refl;
  asked = last_heard;
  outside = out_of_range;
  within = λ rec number inside e. clash (sym (ap is_refused e) ∙ not_refused rec inside);
}
