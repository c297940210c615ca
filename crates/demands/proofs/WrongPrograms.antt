-- None of the wrong programs that document 01 names meets the definitions: each fails on inputs that are computed, two with different answers where
-- it is constant. The count of a writer is one law over `put`.
-- Assumes nothing.
use Prim.Native.Nat.{ℕ}
use native.Mathlib.Omega.{arith}
use mathlib.Core.Path.{◌≡◌, refl, sym, ap, ◌∙◌}
use mathlib.Core.List.{List, [], ◌∷◌, ◌++◌}
use lib.ListN.{get_or, replicate}
use Rattle.laws.specs.Logic.{when, both, either}
use Rattle.laws.specs.Tests.{same_list}
use Rattle.laws.proofs.Logic.{clash}
use Rattle.octets.specs.declared.Kind.{Kind}
use Rattle.octets.specs.declared.Kind.TheVariants.{Ci, Menu}
use Rattle.octets.specs.declared.Purpose.TheVariants.{Writing}
use Rattle.octets.specs.Lists.{first_fault, list_fault, until_category}
use Rattle.refusals.specs.Refusals.{before}
use Rattle.refusals.specs.Lent.{count, room_fault, put}
use Rattle.refusals.proofs.Outcomes.{counted}
use Rattle.sequences.specs.Line.{framed, framed_all, ten_ones, sequence, copies}
use Rattle.sequences.specs.Line.{cj as cjBits}
use Rattle.sequences.specs.Writing.{written, written_cj}
use Rattle.sequences.proofs.Lines.{line_length}
use Rattle.framing.specs.declared.Ear.{Ear}
use Rattle.framing.specs.Framing.{more, is_cj, refusal_in, hunted, synced, bounded, stopped, ended, placed, turned}
use Rattle.listening.specs.declared.Message.{Message}
use Rattle.listening.specs.Hearing.{changed, agreed, reported, told, told_alone, acted, heard_in}
use Rattle.stretches.specs.Hearing.{once_heard, reports}
use Rattle.items.specs.Items.{places, place_of, has_item, set_of, in_set}
use Rattle.menus.specs.Groups.{first_group, front_part, group_of}
use Rattle.menus.specs.Offer.{offer_of, menu_read}
use Rattle.menus.specs.Pcm.{paired}
use Rattle.records.specs.declared.Record.{Record}
use Rattle.offers.specs.Making.{made_cm, made_jm}
use Rattle.choices.specs.Choosing.{lowest_from, pcm_choice, item_choice, chosen_from}
use Rattle.demands.specs.Joint.{cm_of, jm_of}
use Rattle.demands.specs.WrongPrograms.{First, FirstTwo, CountsWhatItWrote, NoNamedWrongProgramFits}

-- octets that are told apart by the first
abbrev one : List ℕ
one = 0xC1 ∷ []

abbrev other : List ℕ
other = 0xA1 ∷ []

apart : {A : Type 0} → one ≡ other → A
apart e = absurd (let z : ◌≡◌ {A = ℕ} 0xC1 0xA1 = ap (λ (l : List ℕ). get_or l 0 0) e in let w : ⊥ = omega (arith, z) in w)

abbrev kind_number : Kind → ℕ
kind_number Ci = 1
kind_number Menu = 2

kinds_apart : {A : Type 0} → Ci ≡ Menu → A
kinds_apart e = absurd (let z : ◌≡◌ {A = ℕ} 1 2 = ap kind_number e in let w : ⊥ = omega (arith, z) in w)

-- one message of each, two of one kind, and one octet list in both kinds
abbrev alone : Kind → List ℕ → List ℕ
alone kind octets = sequence kind octets ++ ten_ones

heard_one : (kind : Kind) → First (alone kind one) kind one []
unfolding when both either same_list framed framed_all sequence cjBits more is_cj refusal_in hunted synced bounded stopped ended placed turned changed agreed reported told told_alone acted heard_in reports first_fault
heard_one Ci = refl
heard_one Menu = refl

heard_other : (kind : Kind) → First (alone kind other) kind other []
unfolding when both either same_list framed framed_all sequence cjBits more is_cj refusal_in hunted synced bounded stopped ended placed turned changed agreed reported told told_alone acted heard_in reports first_fault
heard_other Ci = refl
heard_other Menu = refl

heard_both : (kind : Kind) → FirstTwo (sequence kind one ++ alone kind other) kind one kind other []
unfolding when both either same_list framed framed_all sequence cjBits more is_cj refusal_in hunted synced bounded stopped ended placed turned changed agreed reported told told_alone acted heard_in reports first_fault
heard_both Ci = refl
heard_both Menu = refl

heard_kinds : FirstTwo (sequence Ci one ++ alone Menu one) Ci one Menu one []
unfolding when both either same_list framed framed_all sequence cjBits more is_cj refusal_in hunted synced bounded stopped ended placed turned changed agreed reported told told_alone acted heard_in reports first_fault
heard_kinds = refl

-- a menu that offers nothing, and one that offers everything that a menu can
abbrev bare : List ℕ
bare = other

abbrev full : List ℕ
full = 0xC1 ∷ 0x65 ∷ 0x10 ∷ 0x10 ∷ 0x47 ∷ 0x2A ∷ 0x8D ∷ []

-- a CM with items 1, 3, 4 and 12, and menus with PCM that pair with each other
abbrev asked : List ℕ
asked = 0xC1 ∷ 0x45 ∷ 0x13 ∷ 0x90 ∷ []

abbrev analogue_menu : List ℕ
analogue_menu = 0xC1 ∷ 0x65 ∷ 0x10 ∷ 0x10 ∷ 0x27 ∷ 0x0D ∷ []

abbrev digital_menu : List ℕ
digital_menu = 0xC1 ∷ 0x65 ∷ 0x10 ∷ 0x10 ∷ 0x47 ∷ 0x8D ∷ []

put_counts : (f : ℕ) (new out : List ℕ) → CountsWhatItWrote new (put f new out)
put_counts f new out = record { counted = λ size said. (counted f new out size said).all; stands = λ size said. (counted f new out size said).stands }

written_counts : (kind : Kind) (octets : List ℕ) (n : ℕ) (out : List ℕ) → CountsWhatItWrote (copies n (sequence kind octets)) (written kind octets n out)
written_counts kind octets n out = let line = copies n (sequence kind octets) in put_counts (before (list_fault (Writing kind) octets) (room_fault line out)) line out

cj_counts : (out : List ℕ) → CountsWhatItWrote cjBits (written_cj out)
cj_counts out = put_counts (room_fault cjBits out) cjBits out

cm_counts : (own : Record) (function : ℕ) (blocks out : List ℕ) → CountsWhatItWrote (cm_of own function blocks) (made_cm own function blocks out)
cm_counts own function blocks out = put_counts _ (cm_of own function blocks) out

jm_counts : (own : Record) (heard_cm out : List ℕ) → CountsWhatItWrote (jm_of own heard_cm) (made_jm own heard_cm out)
jm_counts own heard_cm out = put_counts _ (jm_of own heard_cm) out

differ : {A : Type 0} (m n k : ℕ) → m ≡ k → n ≡ k → (m ≡ n → ⊥) → A
differ m n k e f apart = absurd (apart (e ∙ sym f))

-- a writer that writes: thirty bits of one octet
abbrev lent : List ℕ
lent = replicate 30 7

writer_counts : (kind : Kind) → ((octets : List ℕ) (n : ℕ) (out : List ℕ) (size : ℕ) → (written kind octets n out).answer ≡ count size → size ≡ 0) → ⊥
unfolding when both either first_fault framed framed_all sequence copies put
writer_counts Ci h = let z : ◌≡◌ {A = ℕ} 30 0 = h one 1 lent 30 refl in omega (arith, z)
writer_counts Menu h = let z : ◌≡◌ {A = ℕ} 30 0 = h one 1 lent 30 refl in omega (arith, z)

writer_writes : (kind : Kind) → ((octets : List ℕ) (n : ℕ) (out : List ℕ) → (written kind octets n out).buffer ≡ out) → ⊥
unfolding when both either first_fault framed framed_all sequence copies put
writer_writes Ci h = let z : ◌≡◌ {A = ℕ} 1 7 = ap (λ (l : List ℕ). get_or l 0 0) (h one 1 lent) in omega (arith, z)
writer_writes Menu h = let z : ◌≡◌ {A = ℕ} 1 7 = ap (λ (l : List ℕ). get_or l 0 0) (h one 1 lent) in omega (arith, z)

pub no_named_wrong_program_fits : NoNamedWrongProgramFits
unfolding when both either same_list first_fault until_category framed framed_all sequence copies cjBits put more is_cj refusal_in hunted synced bounded stopped ended placed turned changed agreed reported told told_alone acted heard_in once_heard menu_read places place_of has_item set_of in_set first_group front_part group_of paired lowest_from pcm_choice item_choice chosen_from
no_named_wrong_program_fits = record {
  reader = λ kind h. h (alone kind one) one [] (heard_one kind);
  menus = λ h. h bare (offer_of bare) refl;
  writer = writer_counts;
  writes = writer_writes;
  message = λ kind octets h. apart (h (alone kind one) one [] (heard_one kind) ∙ sym (h (alone kind other) other [] (heard_other kind)));
  kind = λ kind h. kinds_apart (h (alone Ci one) Ci one [] (heard_one Ci) ∙ sym (h (alone Menu one) Menu one [] (heard_one Menu)));
  offer = record {
    function = λ n h. differ 5 6 n (h bare (offer_of bare) refl) (h full (offer_of full) refl) (λ e. omega (arith, e));
    items = λ n h. differ 0 3 n (h bare (offer_of bare) refl) (h full (offer_of full) refl) (λ e. omega (arith, e));
    options = λ n h. differ 0 2 n (h bare (offer_of bare) refl) (h full (offer_of full) refl) (λ e. omega (arith, e));
    lapm = λ t h. clash (h full (offer_of full) refl ∙ sym (h bare (offer_of bare) refl));
    access = λ t h. clash (h full (offer_of full) refl ∙ sym (h bare (offer_of bare) refl));
    access_options = λ n h. differ 0 4 n (h bare (offer_of bare) refl) (h full (offer_of full) refl) (λ e. omega (arith, e));
  };
  choice = λ n h. differ 0 1 n (h asked (0xC1 ∷ []) refl) (h asked asked refl) (λ e. omega (arith, e));
  item = λ i h. differ 3 4 i (h asked (0xC1 ∷ 0x05 ∷ 0x13 ∷ 0x10 ∷ []) 3 refl) (h asked (0xC1 ∷ 0x05 ∷ 0x12 ∷ 0x10 ∷ []) 4 refl) (λ e. omega (arith, e));
  pcm = λ n h. differ 2 1 n (h analogue_menu digital_menu 2 refl) (h digital_menu analogue_menu 1 refl) (λ e. omega (arith, e));
  changes = record {
    ear = λ h. let z : ◌≡◌ {A = ℕ} 1 0 = ap (λ (ear : Ear). ear.heard) (h (1 ∷ [])) in absurd (let w : ⊥ = omega (arith, z) in w);
    msg = λ h. let z : ◌≡◌ {A = ℕ} 1 0 = ap (λ (m : Message). m.len) (h (sequence Ci one)) in absurd (let w : ⊥ = omega (arith, z) in w);
    last = λ h. let z : ◌≡◌ {A = ℕ} 1 0 = ap (λ (m : Message). m.len) (h (alone Ci one)) in absurd (let w : ⊥ = omega (arith, z) in w);
  };
  later = λ kind h. apart (sym (h (sequence kind one ++ alone kind other) one other [] (heard_both kind)));
  later_kind = λ h. kinds_apart (sym (h (sequence Ci one ++ alone Menu one) Ci Menu one [] heard_kinds));
  counts = written_counts;
  size = line_length;
  counts_cj = cj_counts;
  counts_cm = cm_counts;
  counts_jm = jm_counts;
}
