-- Runs: a piece of a text leads from one reading of it to another, whatever stands behind it.
-- Assumes nothing.
use Rattle.std.proofs.Common.{◌≡◌, ℕ, zero, suc, ◌+◌, ◌<◌, Bool, true, false, not, T, eqb, None, List, [], ◌∷◌, ◌++◌, length, take, replicate, sym, refl, ap, ◌∙◌, ap₂, append_assoc, append-nil, not-suc-le-zero, arith, length-append, take_at}
use borrow.Author.Tests.{not-true}
use Rattle.laws.specs.Logic.{when, both, either}
use Rattle.laws.specs.Tests.{every}
use Rattle.laws.proofs.Logic.{both_true, either_false}
use Rattle.plans.specs.declared.Reading.{Reading}
use Rattle.plans.specs.declared.Scan.{Scan}
use Rattle.plans.specs.Text.{blank, line_feed, comment, ends_word, word_length, word, number, octet}
use Rattle.plans.specs.Reading.{finish_line, read_word, between, in_word, scan_after, read_byte, finished, read_from, at_bits, mark_at, marked_bit, marked_from, at_octets, octet_at, one_octet, octets_from}

-- a text that begins with the end of a word, or is empty
abbrev pub Stops : List ℕ → Type 0
Stops text = word_length text ≡ 0

-- no byte ends the word
abbrev pub spelled : List ℕ → Bool
spelled text = every (λ (b : ℕ). not (ends_word b)) text

pub holds : (t : Bool) → T t → t ≡ true
holds true h = refl
holds false h = absurd h

-- what is found in a text beside the plan, up to a place: the damaged bits, and the octets in lines about one end, or about none
pub record Found : Type 0 where
  pub damaged : List ℕ
  pub octets : List ℕ
  pub whose : ℕ

abbrev pub found : List ℕ → List ℕ → ℕ → Found
found damaged octets whose = record { damaged = damaged; octets = octets; whose = whose }

-- a text is read on from a place in it: so many bytes are behind
pub record Goes (r : Reading) (scan : Scan) (d : Found) (text : List ℕ) (count : ℕ) (r' : Reading) (scan' : Scan) (d' : Found) (rest : List ℕ) : Type 0 where
  pub reads : (at : ℕ) → read_from r scan at text ≡ read_from r' scan' (at + count) rest
  pub marks : marked_from r scan text d.damaged ≡ marked_from r' scan' rest d'.damaged
  pub gives : d.octets ++ octets_from d.whose r scan text ≡ d'.octets ++ octets_from d'.whose r' scan' rest

-- a piece of a text is read, whatever stands behind it that does not go on with its last word
pub record Run (r : Reading) (d : Found) (text : List ℕ) (r' : Reading) (d' : Found) : Type 0 where
  pub goes : (rest : List ℕ) → Stops rest → Goes r between d (text ++ rest) (length text) r' between d' rest

go_on :
    {r r' r'' : Reading} {s s' s'' : Scan} {d d' d'' : Found} {text rest rest' : List ℕ} (m n k : ℕ) → m + n ≡ k → Goes r s d text m r' s' d' rest → Goes r' s' d' rest n r'' s'' d'' rest'
    → Goes r s d text k r'' s'' d'' rest'
go_on {r''} {s''} {rest'} m n k sum first second = record {
  reads = λ at. first.reads at ∙ second.reads (at + m) ∙ ap (λ (place : ℕ). read_from r'' s'' place rest') (omega (arith, sum));
  marks = first.marks ∙ second.marks;
  gives = first.gives ∙ second.gives;
}

-- one byte
module _ (r r' : Reading) (s s' : Scan) (b : ℕ) (rest : List ℕ) (d d' : Found) (is_read : read_byte r s b rest ≡ r') (is-scan : scan_after s b ≡ s') (is_right : r'.what ≡ None)
    (is-marked : marked_bit r s b rest d.damaged ≡ d'.damaged) (is-given : d.octets ++ one_octet (octet_at d.whose r s b rest) ≡ d'.octets) (is-whose : d.whose ≡ d'.whose)
  where
    one_byte : Goes r s d (b ∷ rest) 1 r' s' d' rest
    unfolding read_from marked_from octets_from when
    one_byte = record {
      reads = λ at. simp (is_read, is-scan, is_right);
      marks = simp (is_read, is-scan, is-marked);
      gives = simp (is_read, is-scan) (sym (append_assoc d.octets (one_octet (octet_at d.whose r s b rest)) (octets_from d.whose r' s' rest)) ∙ ap₂ (λ (front : List ℕ) (whose : ℕ). front ++ octets_from whose r' s' rest) is-given is-whose);
    }

-- where a text stops, it is the same whether a word stands before it or not
stop_first : (b : ℕ) (rest : List ℕ) → Stops (b ∷ rest) → ends_word b ≡ true
unfolding word_length when
stop_first b rest stops = go (ends_word b) stops
  where
    go : (t : Bool) → when t 0 (suc (word_length rest)) ≡ 0 → t ≡ true
    go true e = refl
    go false e = absurd (omega (arith, e))

pub stops_joined : (a b : List ℕ) → Stops a → Stops b → Stops (a ++ b)
unfolding word_length when
stops_joined [] b first second = second
stops_joined (c ∷ a) b first second = rw (stop_first c a first)

module _ (r : Reading) (d : Found) where
  same_reads : (rest : List ℕ) (at : ℕ) → Stops rest → read_from r in_word at rest ≡ read_from r between at rest
  unfolding read_from read_byte scan_after when
  same_reads [] at stops = refl
  same_reads (b ∷ rest) at stops = simp (stop_first b rest stops)

  same_marks : (rest : List ℕ) → Stops rest → marked_from r in_word rest d.damaged ≡ marked_from r between rest d.damaged
  unfolding marked_from read_byte scan_after when both
  same_marks [] stops = refl
  same_marks (b ∷ rest) stops = simp (stop_first b rest stops)

  same_octets : (rest : List ℕ) → Stops rest → octets_from d.whose r in_word rest ≡ octets_from d.whose r between rest
  unfolding octets_from read_byte scan_after when both
  same_octets [] stops = refl
  same_octets (b ∷ rest) stops = simp (stop_first b rest stops)

  same_scan : (rest : List ℕ) → Stops rest → Goes r in_word d rest 0 r between d rest
  same_scan rest stops = record {
    reads = λ at. same_reads rest at stops ∙ ap (λ (place : ℕ). read_from r between place rest) (omega arith);
    marks = same_marks rest stops;
    gives = ap (λ (more : List ℕ). d.octets ++ more) (same_octets rest stops);
  }

-- a byte of a word is no blank, no line feed and begins no comment
record InWord (b : ℕ) : Type 0 where
  feed : eqb b line_feed ≡ false
  hash : eqb b comment ≡ false
  gap : blank b ≡ false

in_word_lem : (b : ℕ) → not (ends_word b) ≡ true → InWord b
in_word_lem b h =
    let first = either_false (blank b) (either (eqb b line_feed) (eqb b comment)) (not-true (ends_word b) h) in
    let second = either_false (eqb b line_feed) (eqb b comment) first.1 in
    record { feed = second.0; hash = second.1; gap = first.0 }

-- a word goes on
module _ (r : Reading) (is_right : r.what ≡ None) (d : Found) where
  within_byte : (b : ℕ) (rest : List ℕ) → InWord b → Goes r in_word d (b ∷ rest) 1 r in_word d rest
  unfolding read_byte scan_after when both either
  within_byte b rest w = one_byte r r in_word in_word b rest d d (simp (w.feed, w.hash, w.gap)) (simp (w.feed, w.hash, w.gap)) is_right (simp (w.feed, w.hash, w.gap)) (simp (w.feed, w.hash, w.gap, append-nil)) refl

  within : (w rest : List ℕ) → spelled w ≡ true → Goes r in_word d (w ++ rest) (length w) r in_word d rest
  unfolding every
  within [] rest h = record { reads = λ at. ap (λ (place : ℕ). read_from r in_word place rest) (omega arith); marks = refl; gives = refl }
  within (b ∷ w) rest h =
      let here = both_true (not (ends_word b)) (spelled w) h in
      go_on 1 (length w) (suc (length w)) (omega arith) (within_byte b (w ++ rest) (in_word_lem b here.0)) (within w rest here.1)

-- the word at the front of a text
word_length_lem : (w rest : List ℕ) → spelled w ≡ true → Stops rest → word_length (w ++ rest) ≡ length w
unfolding word_length every when
word_length_lem [] rest h stops = stops
word_length_lem (b ∷ w) rest h stops =
    let here = both_true (not (ends_word b)) (spelled w) h in
    simp (not-true (ends_word b) here.0, word_length_lem w rest here.1 stops)

word_front : (w rest : List ℕ) → spelled w ≡ true → Stops rest → word (w ++ rest) ≡ w
word_front w rest h stops = ap (λ (n : ℕ). take n (w ++ rest)) (word_length_lem w rest h stops) ∙ take_at w rest (length w) refl

-- a piece of nothing
pub nothing : (r : Reading) (d : Found) → Run r d [] r d
nothing r d = record { goes = λ rest stops. record { reads = λ at. ap (λ (place : ℕ). read_from r between place rest) (omega arith); marks = refl; gives = refl } }

-- a word
pub word_run :
    (r r' : Reading) (d d' : Found) (w : List ℕ) → 0 < length w → spelled w ≡ true → read_word r w ≡ r' → r'.what ≡ None
    → when (at_bits r) (mark_at r.end (number w) d.damaged) d.damaged ≡ d'.damaged
    → d.octets ++ one_octet (when (both (at_octets r) (eqb r.end d.whose)) (octet w) None) ≡ d'.octets → d.whose ≡ d'.whose → Run r d w r' d'
unfolding every read_byte scan_after when both either
word_run r r' d d' [] full h is_read is_right is-marked is-given is-whose = absurd (not-suc-le-zero full)
word_run r r' d d' (b ∷ w) full h is_read is_right is-marked is-given is-whose = record { goes = go }
  where
    go : (rest : List ℕ) → Stops rest → Goes r between d (b ∷ w ++ rest) (suc (length w)) r' between d' rest
    go rest stops =
        let here = both_true (not (ends_word b)) (spelled w) h in
        let i = in_word_lem b here.0 in
        let front = word_front (b ∷ w) rest h stops in
        go_on 1 (length w + 0) (suc (length w)) (omega arith)
        (one_byte r r' between in_word b (w ++ rest) d d' (simp (i.feed, i.hash, i.gap, front, is_read)) (simp (i.feed, i.hash, i.gap)) is_right (simp (i.feed, i.hash, i.gap, front, is-marked)) (simp (i.feed, i.hash, i.gap, front) is-given) is-whose)
        (go_on (length w) 0 (length w + 0) refl (within r' is_right d' w rest here.1) (same_scan r' d' rest stops))

-- a blank before a piece
behind : {r r' : Reading} {d d' : Found} {text : List ℕ} (b : ℕ) → blank b ≡ true → eqb b line_feed ≡ false → eqb b comment ≡ false → r.what ≡ None → Run r d text r' d' → Run r d (b ∷ text) r' d'
unfolding read_byte scan_after when both either
behind {r} {r'} {d} {d'} {text} b gap feed hash is_right run = record {
  goes = λ rest stops.
      go_on 1 (length text) (suc (length text)) (omega arith)
      (one_byte r r between between b (text ++ rest) d d (simp (gap, feed)) (simp (feed, hash, gap)) is_right (simp gap) (simp (gap, append-nil)) refl)
      (run.goes rest stops);
}

-- blanks, so many, and a comma
pub spaced : {r r' : Reading} {d d' : Found} {text : List ℕ} (n : ℕ) → r.what ≡ None → Run r d text r' d' → Run r d (replicate n 32 ++ text) r' d'
unfolding either
spaced zero is_right run = run
spaced (suc n) is_right run = behind 32 refl refl refl is_right (spaced n is_right run)

pub comma : {r r' : Reading} {d d' : Found} {text : List ℕ} → r.what ≡ None → Run r d text r' d' → Run r d (44 ∷ text) r' d'
unfolding either
comma is_right run = behind 44 refl refl refl is_right run

-- a line feed before a piece
pub fed : {r r' r'' : Reading} {d d' : Found} {text : List ℕ} → finish_line r ≡ r' → r'.what ≡ None → Run r' d text r'' d' → Run r d (line_feed ∷ text) r'' d'
unfolding read_byte scan_after when both either
fed {r} {r'} {r''} {d} {d'} {text} is-fed is_right run = record {
  goes = λ rest stops.
      go_on 1 (length text) (suc (length text)) (omega arith)
      (one_byte r r' between between line_feed (text ++ rest) d d is-fed refl is_right refl (append-nil d.octets) refl)
      (run.goes rest stops);
}

-- two pieces, the second of which stops the first
pub join : {r r' r'' : Reading} {d d' d'' : Found} {a b : List ℕ} → Run r d a r' d' → Stops b → Run r' d' b r'' d'' → Run r d (a ++ b) r'' d''
join {r} {r'} {r''} {d} {d'} {d''} {a} {b} first stops second = record {
  goes = λ rest is-stopped.
      rw (append_assoc a b rest)
      (go_on (length a) (length b) (length (a ++ b)) (sym (length-append a b)) (first.goes (b ++ rest) (stops_joined b rest stops is-stopped)) (second.goes rest is-stopped));
}

-- a piece that is the whole text
module _ {r r' : Reading} {d d' : Found} {text : List ℕ} (run : Run r d text r' d') where
  whole : Goes r between d text (length text) r' between d' []
  unfolding word_length
  whole = rw append-nil at (run.goes [] refl)

  pub whole_read : (at : ℕ) → read_from r between at text ≡ finished r' (at + length text)
  unfolding read_from
  whole_read at = whole.reads at

  pub whole_marked : marked_from r between text d.damaged ≡ d'.damaged
  unfolding marked_from
  whole_marked = whole.marks

  pub whole_given : d.octets ++ octets_from d.whose r between text ≡ d'.octets
  unfolding octets_from
  whole_given = whole.gives ∙ append-nil d'.octets
