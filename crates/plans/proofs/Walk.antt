-- Laws about texts, one byte at a time.
-- Assumes nothing.
use Rattle.std.proofs.Common.{◌≡◌, ℕ, suc, ◌+◌, ◌<◌, ◌≤◌, Bool, true, false, eqb, leb, min, Some, None, List, [], ◌∷◌, ◌++◌, length, Option, Some, None, get_or, drop, sym, refl, ap, ◌∙◌, add-one, arith, drop_of_length-le, drop-cons, eq-eqb, ne_eqb, eqb-true, leb-true, leb-false}
use Rattle.laws.specs.Logic.{when, either}
use Rattle.plans.specs.declared.Reading.{Reading}
use Rattle.plans.specs.declared.Scan.{Scan}
use Rattle.plans.specs.Text.{ends_word, word_length, word, with_digit, number_on, line_feed, word_at}
use Rattle.plans.specs.Reading.{read_word, finish_line, scan_after, begins_word, read_byte, mistake, finished, read_from, marked_bit, marked_from, octet_at, one_octet, octets_from}

-- a line feed begins no word
pub feeds_no_word : (scan : Scan) (b : ℕ) → eqb b line_feed ≡ true → begins_word scan b ≡ false
unfolding when either
feeds_no_word scan b feed = rw (eqb-true b line_feed feed)

-- the word at the front, one byte at a time
module _ (text : List ℕ) (i : ℕ) where
  pub word_ends : i < length text → ends_word (get_or text i 0) ≡ true → word_length (drop i text) ≡ 0
  unfolding word_length when
  word_ends there ends = simp (drop-cons text i 0 there, ends)

  pub word_on : i < length text → ends_word (get_or text i 0) ≡ false → word_length (drop i text) ≡ suc (word_length (drop (i + 1) text))
  unfolding word_length when
  word_on there goes_on = simp (drop-cons text i 0 there, goes_on, add-one)

  pub word_past : length text ≤ i → word_length (drop i text) ≡ 0
  unfolding word_length
  word_past past = simp (drop_of_length-le text past)

-- a place past the end is the end
pub drop_within : (text : List ℕ) (at from : ℕ) → from ≡ min at (length text) → drop from text ≡ drop at text
drop_within text at from is = go (leb at (length text)) refl
  where
    go : (t : Bool) → leb at (length text) ≡ t → drop from text ≡ drop at text
    go true fits = ap (λ (n : ℕ). drop n text) (omega (arith, is, leb-true at (length text) fits))
    go false past =
        let over = leb-false at (length text) past in
        drop_of_length-le text (omega (arith, is, over)) ∙ sym (drop_of_length-le text (omega (arith, over)))

-- what is no number stays none
pub none_on : (word : List ℕ) → number_on None word ≡ None
unfolding number_on
none_on [] = refl
none_on (b ∷ rest) = none_on rest

module _ (text : List ℕ) (i : ℕ) where
  module _ (more : i < length text) where
    here : drop i text ≡ get_or text i 0 ∷ drop (i + 1) text
    here = drop-cons text i 0 more ∙ ap (λ (next : ℕ). get_or text i 0 ∷ drop next text) (sym (add-one i))

    pub number_on_lem : (n : ℕ) → number_on (Some n) (drop i text) ≡ number_on (with_digit n (get_or text i 0)) (drop (i + 1) text)
    unfolding number_on
    number_on_lem n = ap (number_on (Some n)) here

    abbrev this : ℕ
    this = get_or text i 0

    abbrev rest : List ℕ
    rest = drop (i + 1) text

    module _ (r : Reading) (scan : Scan) where
      pub byte_ends : this ≡ line_feed → read_byte r scan this rest ≡ finish_line r
      unfolding read_byte when
      byte_ends ends = simp (eq-eqb this line_feed ends)

      within_line : (this ≡ line_feed → ⊥) → read_byte r scan this rest ≡ when (begins_word scan this) (read_word r (word_at text i)) r
      unfolding read_byte when
      within_line within =
          ap (λ (t : Bool). when t (finish_line r) (when (begins_word scan this) (read_word r (word (this ∷ rest))) r)) (ne_eqb this line_feed within)
          ∙ ap (λ (front : List ℕ). when (begins_word scan this) (read_word r (word front)) r) (sym here)

      pub byte_reads : (this ≡ line_feed → ⊥) → begins_word scan this ≡ true → read_byte r scan this rest ≡ read_word r (word_at text i)
      unfolding when
      byte_reads within begins = within_line within ∙ ap (λ (t : Bool). when t (read_word r (word_at text i)) r) begins

      pub byte_passes : (this ≡ line_feed → ⊥) → begins_word scan this ≡ false → read_byte r scan this rest ≡ r
      unfolding when
      byte_passes within passes = within_line within ∙ ap (λ (t : Bool). when t (read_word r (word_at text i)) r) passes

      module _ (next : Reading) (is-next : next ≡ read_byte r scan this rest) where
        pub read_on : (after : Scan) → after ≡ scan_after scan this → next.what ≡ None → read_from next after (i + 1) rest ≡ read_from r scan i (drop i text)
        unfolding read_from when
        read_on after is-after right = simp (here, ← is-next, right, is-after)

        pub read_stop : (what : ℕ) → next.what ≡ Some what → read_from r scan i (drop i text) ≡ mistake what i
        unfolding read_from when
        read_stop what wrong = simp (here, ← is-next, wrong)

        pub marked_on :
            (after : Scan) (damaged now : List ℕ) → after ≡ scan_after scan this → now ≡ marked_bit r scan this rest damaged
            → marked_from next after rest now ≡ marked_from r scan (drop i text) damaged
        unfolding marked_from
        marked_on after damaged now is-after is-now = simp (here, is-after, is-now) (ap (λ (x : Reading). marked_from x (scan_after scan this) rest (marked_bit r scan this rest damaged)) is-next)

        pub octets_on : (end : ℕ) (after : Scan) (n : Option ℕ) → after ≡ scan_after scan this → n ≡ octet_at end r scan this rest → octets_from end r scan (drop i text) ≡ one_octet n ++ octets_from end next after rest
        unfolding octets_from
        octets_on end after n is-after is-n =
            let is_read = ap (λ (x : Reading). one_octet (octet_at end r scan this rest) ++ octets_from end x (scan_after scan this) rest) (sym is-next) in
            ap (octets_from end r scan) here ∙ is_read ∙ simp (is-after, is-n)

  module _ (over : length text ≤ i) where
    nothing : drop i text ≡ []
    nothing = drop_of_length-le text over

    pub number_past : (n : Option ℕ) → number_on n (drop i text) ≡ n
    unfolding number_on
    number_past n = simp nothing

    pub read_end : (r : Reading) (scan : Scan) → read_from r scan i (drop i text) ≡ finished r i
    unfolding read_from
    read_end r scan = simp nothing

    pub marked_end : (r : Reading) (scan : Scan) (damaged : List ℕ) → marked_from r scan (drop i text) damaged ≡ damaged
    unfolding marked_from
    marked_end r scan damaged = simp nothing

    pub octets_end : (end : ℕ) (r : Reading) (scan : Scan) → octets_from end r scan (drop i text) ≡ []
    unfolding octets_from
    octets_end end r scan = simp nothing
