-- Three words that stand nowhere: the flag and CJ in copies of an accepted message; ten 1s with a 0 behind them in a copy that lacks its
-- first bit. Each has a table, on which every piece of a line leads from the first states to the first states: computed at each octet.
-- Assumes nothing.
use Prim.Native.Nat.{ℕ, zero, suc, ◌<◌}
use native.Mathlib.Omega.{arith}
use mathlib.Core.Path.{sym, subst}
use mathlib.Core.Bool.{Bool}
use mathlib.Core.List.{List, [], ◌∷◌, ◌++◌}
use lib.Dec.{T, ltb, ltb→lt, lit<}
use lib.ListN.{drop, replicate}
use Rattle.laws.specs.Logic.{when, both, either}
use Rattle.laws.specs.Tests.{all_below}
use Rattle.laws.proofs.Computed.{below, both_left, both_right}
use Rattle.octets.specs.declared.Kind.{Kind}
use Rattle.octets.specs.declared.Kind.TheVariants.{Ci, Menu}
use Rattle.sequences.specs.Line.{framed, framed_all, ten_ones, sync, sequence, copies, cj}
use Rattle.stretches.specs.Stretch.{Nowhere, flag}
use Rattle.stretches.specs.Hearing.{Sent, none_sent, sent, line_of}
use Rattle.stretches.proofs.Each.{Each, none, more}
use Rattle.stretches.proofs.Standing.{Table, run, run_append, nowhere_right, nowhere}
use Rattle.stretches.proofs.Sound.{implies, implied, soundly, Sound, accepted_sound}

-- a piece of the line that leads from each of the first states to one of them
abbrev keeps : Table → ℕ → List ℕ → Bool
keeps table good piece = all_below (λ (state : ℕ). ltb (run table state piece) good) good

abbrev octet_keeps : Table → ℕ → ℕ → Bool
octet_keeps table good b = implies (soundly b) (keeps table good (framed b))

-- a line keeps them, which opens with these 1s: its sync of either kind does, and each octet
abbrev lines_keep : Table → ℕ → List ℕ → Bool
lines_keep table good ones = both (both (keeps table good (ones ++ sync Ci)) (keeps table good (ones ++ sync Menu))) (all_below (octet_keeps table good) 256)

module _ (table : Table) (good : ℕ) where
  abbrev Keeps : List ℕ → Type 0
  Keeps piece = (state : ℕ) → state < good → run table state piece < good

  kept : (piece : List ℕ) → T (keeps table good piece) → Keeps piece
  kept piece computed state low = ltb→lt _ _ (below (λ (n : ℕ). ltb (run table n piece) good) good computed state low)

  both_keep : (a b : List ℕ) → Keeps a → Keeps b → Keeps (a ++ b)
  both_keep a b a-keeps b-keeps state low = subst (λ (n : ℕ). n < good) (sym (run_append table state a b)) (b-keeps (run table state a) (a-keeps state low))

  nothing_keeps : Keeps []
  unfolding run
  nothing_keeps state low = low

  octets_keep : T (all_below (octet_keeps table good) 256) → (octets : List ℕ) → Each Sound octets → Keeps (framed_all octets)
  unfolding framed_all
  octets_keep computed [] none = nothing_keeps
  octets_keep computed (b ∷ octets) (more o os) =
      both_keep (framed b) (framed_all octets) (kept (framed b) (implied _ _ (below (octet_keeps table good) 256 computed b o.small) o.test)) (octets_keep computed octets os)

  opening_keeps : (ones : List ℕ) → T (lines_keep table good ones) → (kind : Kind) → Keeps (ones ++ sync kind)
  opening_keeps ones computed Ci = kept (ones ++ sync Ci) (both_left _ _ (both_left _ _ computed))
  opening_keeps ones computed Menu = kept (ones ++ sync Menu) (both_right _ _ (both_left _ _ computed))

  lines_keep_lem : (ones : List ℕ) → T (lines_keep table good ones) → (kind : Kind) (octets : List ℕ) → Each Sound octets → Keeps (ones ++ sync kind ++ framed_all octets)
  lines_keep_lem ones computed kind octets o = both_keep (ones ++ sync kind) (framed_all octets) (opening_keeps ones computed kind) (octets_keep (both_right _ _ computed) octets o)

  copies_keep : (line : List ℕ) → Keeps line → (n : ℕ) → Keeps (copies n line)
  unfolding copies
  copies_keep line line-keeps zero = nothing_keeps
  copies_keep line line-keeps (suc n) = both_keep line (copies n line) line-keeps (copies_keep line line-keeps n)

  messages_keep : T (lines_keep table good ten_ones) → (messages : Sent) → Keeps (line_of messages)
  unfolding sequence
  messages_keep computed none_sent = nothing_keeps
  messages_keep computed (sent kind octets accepted later) = both_keep (sequence kind octets) (line_of later) (lines_keep_lem ten_ones computed kind octets (accepted_sound kind octets accepted)) (messages_keep computed later)

-- the flag: up to five 1s since the last 0; seven or more, or no 0 yet; six; the flag has stood
abbrev flags : Table
flags = record { zeros = 0 ∷ 0 ∷ 0 ∷ 0 ∷ 0 ∷ 0 ∷ 0 ∷ 8 ∷ 8 ∷ []; ones = 1 ∷ 2 ∷ 3 ∷ 4 ∷ 5 ∷ 7 ∷ 6 ∷ 6 ∷ 8 ∷ []; last = 8 }

-- CJ: a 1; a 1 that ends 10000000001; one to nine 0s since a 1; one to eight since such a 1; more 0s, or no 1 yet; nine 0s since such a 1
abbrev cjs : Table
cjs = record {
  zeros = 2 ∷ 11 ∷ 3 ∷ 4 ∷ 5 ∷ 6 ∷ 7 ∷ 8 ∷ 9 ∷ 10 ∷ 19 ∷ 12 ∷ 13 ∷ 14 ∷ 15 ∷ 16 ∷ 17 ∷ 18 ∷ 20 ∷ 19 ∷ 20 ∷ [];
  ones = 0 ∷ 0 ∷ 0 ∷ 0 ∷ 0 ∷ 0 ∷ 0 ∷ 0 ∷ 0 ∷ 0 ∷ 1 ∷ 0 ∷ 0 ∷ 0 ∷ 0 ∷ 0 ∷ 0 ∷ 0 ∷ 0 ∷ 0 ∷ 20 ∷ [];
  last = 20;
}

-- a sync's start: up to nine 1s since the last 0; ten or more; a 0 behind them
abbrev starts : Table
starts = record { zeros = 0 ∷ 0 ∷ 0 ∷ 0 ∷ 0 ∷ 0 ∷ 0 ∷ 0 ∷ 0 ∷ 0 ∷ 11 ∷ 11 ∷ []; ones = 1 ∷ 2 ∷ 3 ∷ 4 ∷ 5 ∷ 6 ∷ 7 ∷ 8 ∷ 9 ∷ 10 ∷ 10 ∷ 11 ∷ []; last = 11 }

-- ten 1s with a 0 behind them
abbrev pub start : List ℕ
start = ten_ones ++ 0 ∷ []

pub no_cj_sent : (messages : Sent) → Nowhere cj (line_of messages ++ ten_ones)
unfolding run when both either all_below framed framed_all cj
no_cj_sent messages = nowhere cj cjs tt _ 0 (lit< tt) (omega (arith, both_keep cjs 2 (line_of messages) ten_ones (messages_keep cjs 2 tt messages) (kept cjs 2 ten_ones tt) 0 (lit< tt)))

module _ (kind : Kind) (octets : List ℕ) (sound : Each Sound octets) where
  pub no_flag : (n : ℕ) → Nowhere flag (copies n (sequence kind octets))
  unfolding run when both either all_below framed sequence
  no_flag n = nowhere flag flags tt _ 0 (lit< tt) (omega (arith, copies_keep flags 7 (sequence kind octets) (lines_keep_lem flags 7 ten_ones tt kind octets sound) n 0 (lit< tt)))

  pub no_cj : (n : ℕ) → Nowhere cj (copies n (sequence kind octets))
  unfolding run when both either all_below framed framed_all sequence cj
  no_cj n = nowhere cj cjs tt _ 0 (lit< tt) (omega (arith, copies_keep cjs 2 (sequence kind octets) (lines_keep_lem cjs 2 ten_ones tt kind octets sound) n 0 (lit< tt)))

  -- a copy with 0 for its first bit
  spoiled : Nowhere start (0 ∷ drop 1 (sequence kind octets))
  unfolding run when both either all_below framed sequence
  spoiled = nowhere start starts tt _ 0 (lit< tt) (omega (arith, lines_keep_lem starts 10 (0 ∷ replicate 9 1) tt kind octets sound 0 (lit< tt)))

  pub no_start : Nowhere start (drop 1 (sequence kind octets))
  no_start = nowhere_right start (0 ∷ []) (drop 1 (sequence kind octets)) spoiled
