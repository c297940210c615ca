-- Listening over whole lists of bits. The lemmas, by induction over the bits heard since a record was fresh, stand in crate stretches.
-- Assumes nothing.
use Prim.Native.Nat.{ℕ, ◌<◌}
use native.Mathlib.Omega.{arith}
use mathlib.Core.Path.{◌≡◌, refl, sym, ap, ◌∙◌}
use mathlib.Core.Bool.{true}
use mathlib.Core.List.{List, [], ◌∷◌, ◌++◌, append_assoc}
use lib.ListN.{drop, get_or}
use Rattle.laws.specs.Logic.{when, both, either}
use Rattle.laws.specs.Tests.{every}
use Rattle.octets.specs.declared.Kind.{Kind}
use Rattle.octets.specs.declared.Kind.TheVariants.{Ci, Menu}
use Rattle.octets.specs.Lists.{first_fault}
use Rattle.refusals.specs.Lent.{room_fault}
use Rattle.refusals.proofs.Outcomes.{counted}
use Rattle.sequences.specs.Line.{framed, framed_all, sync, v92_sync}
use Rattle.sequences.specs.Line.{cj as cjBits}
use Rattle.listening.proofs.Ranges.{range_fits}
use Rattle.stretches.specs.Stretch.{bits_all, AcceptedMessage}
use Rattle.stretches.proofs.Each.{none, more, each_append, each_left, each_right, Bits, bits_by}
use Rattle.stretches.proofs.Flags.{fresh_flags}
use Rattle.stretches.proofs.Copies.{sent_read, copies_read}
use Rattle.stretches.proofs.Heard.{are_bits, knows_heard, cj_told, cj_only}
use Rattle.stretches.proofs.Led.{led_heard, reported_stands, ten_ends, ends_ten, ends_ones, octet_ends}
use Rattle.stretches.proofs.Syncs.{other_sync, stays_readable, told_early}
use Rattle.stretches.proofs.Parts.{call_leaves, parts_told, parts_end}
use Rattle.demands.specs.Heard.{AreBits, CjIsToldWhereItStands, AgreedIsTheMessageBefore, HoldsWhatWasHeard, ReportsStandOnTheLine, OtherSyncsArePassedOver, StoredOctetsStayReadable, PartsMakeNoDifference}

-- the bits before the last, and the last
early_bits : (bits : List ℕ) (bit : ℕ) → AreBits bits bit → Bits bits
early_bits bits bit tested = each_left bits (bit ∷ []) (are_bits (bits ++ bit ∷ []) tested)

last_bit : (bits : List ℕ) (bit : ℕ) → Bits (bits ++ bit ∷ []) → bit < 2
last_bit bits bit lows = only_one (each_right bits (bit ∷ []) lows)
  where
    only_one : Bits (bit ∷ []) → bit < 2
    only_one (more low none) = low

cj_bits : Bits cjBits
unfolding every both cjBits framed_all framed
cj_bits = bits_by cjBits tt

pub cj_is_told_where_it_stands : CjIsToldWhereItStands
cj_is_told_where_it_stands = record {
  told = λ bits bit tested ends. cj_told bits (early_bits bits bit tested) bit (last_bit bits bit (are_bits (bits ++ bit ∷ []) tested)) ends;
  only = λ bits bit tested told. cj_only bits (early_bits bits bit tested) bit (last_bit bits bit (are_bits (bits ++ bit ∷ []) tested)) told;
  written = λ bits out size tested wrote first last is.
      let stands : first ++ last ∷ [] ≡ cjBits = is ∙ (counted (room_fault cjBits out) cjBits out size wrote).stands in
      let whole : Bits (first ++ last ∷ []) = rw stands cj_bits in
      cj_told (bits ++ first) (each_append (are_bits bits tested) (each_left first (last ∷ []) whole)) last (last_bit first last whole) (bits, sym (append_assoc bits first (last ∷ []) ∙ ap (λ (l : List ℕ). bits ++ l) stands));
}

pub agreed_is_the_message_before : AgreedIsTheMessageBefore
agreed_is_the_message_before = record { flags = λ bytes. sym (fresh_flags bytes); told = sent_read }

pub holds_what_was_heard : (bits : List ℕ) → bits_all bits ≡ true → HoldsWhatWasHeard bits
holds_what_was_heard bits tested =
    let lows = are_bits bits tested in
    record {
      count = (knows_heard bits lows).count;
      ten = ten_ends bits lows;
      ends = λ word word-tested. ends_ten bits lows word (are_bits word word-tested);
      ones = ends_ones bits lows;
      octet = octet_ends bits lows;
      led = led_heard bits lows;
    }

pub reports_stand_on_the_line : ReportsStandOnTheLine
reports_stand_on_the_line = record {
  stands = λ bits bit tested kind octets flag span notes. (reported_stands bits (early_bits bits bit tested) bit (last_bit bits bit (are_bits (bits ++ bit ∷ []) tested)) kind octets flag span notes).0;
}

-- the call function and an extension octet
with_55 : AcceptedMessage Menu (0xC1 ∷ 0x55 ∷ [])
unfolding when both either every first_fault
with_55 = record { octet = refl; taken = refl }

not_ours : (kind : Kind) → v92_sync ≡ sync kind → ⊥
not_ours Ci e = omega (arith, ap (λ (l : List ℕ). get_or l 1 0) e)
not_ours Menu e = omega (arith, ap (λ (l : List ℕ). get_or l 1 0) e)

pub other_syncs_are_passed_over : OtherSyncsArePassedOver
unfolding framed every both
other_syncs_are_passed_over = record {
  others = λ bits tested at ones later later-tested. other_sync bits (are_bits bits tested) at ones later (are_bits later later-tested);
  v92 = λ bits tested at ones. other_sync bits (are_bits bits tested) at ones (drop 1 v92_sync) (bits_by (drop 1 v92_sync) tt) refl not_ours;
  octet55 = refl;
  stored = copies_read Menu (0xC1 ∷ 0x55 ∷ []) with_55;
}

pub stored_octets_stay_readable : StoredOctetsStayReadable
stored_octets_stay_readable = record { hunts = told_early; stays = λ rec bytes. stays_readable bytes rec }

pub parts_make_no_difference : PartsMakeNoDifference
parts_make_no_difference = record {
  told = λ rec parts told range. parts_told rec parts told (range_fits rec range);
  leaves = λ rec part range. call_leaves part rec (range_fits rec range);
  ends = λ rec parts range. parts_end parts rec (range_fits rec range);
}
