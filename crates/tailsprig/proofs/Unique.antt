-- Two results that meet the promise of a call are equal: each part of a promise is an equation.
-- Assumes nothing.
use mathlib.Core.Path.{◌≡◌, sym, ◌∙◌}
use Prim.Native.Nat.{ℕ}
use mathlib.Core.List.{List}
use lib.IntN.{ℤ}
use Rattle.refusals.specs.Lent.{WriteOutcome}
use Rattle.listening.specs.declared.Listener.{Listener}
use Rattle.listening.specs.Hearing.{HearOutcome, ManyOutcome}
use Rattle.menus.specs.Offer.{Read}
use Rattle.menus.specs.Asking.{Asked}
use Rattle.fields.specs.Blocks.{Walked}
use Rattle.steps.specs.Session.{Start}
use Rattle.steps.specs.Stepping as stepping
use Rattle.steps.specs.Drawing.{DrawOutcome}
use Rattle.tailsprig.specs.declared.Ran.{Ran}
use Rattle.tailsprig.specs.declared.MenuRead.{MenuRead}
use Rattle.tailsprig.specs.declared.ItemAsked.{ItemAsked}
use Rattle.tailsprig.specs.declared.BlocksRead.{BlocksRead}
use Rattle.tailsprig.specs.declared.CallerStart.{CallerStart}
use Rattle.tailsprig.specs.declared.StepTaken.{StepTaken}
use Rattle.tailsprig.specs.declared.BitsDrawn.{BitsDrawn}
use Rattle.tailsprig.specs.Exports.{Returns, HearsAs, RunsAs, ReadsAs, AsksAs, WalksAs, StartsAs, StepsAs, DrawsAs}

pub returns_unique : (laid : WriteOutcome) (r s : ℤ) (after before : List ℕ) → Returns laid r after → Returns laid s before → (r ≡ s) × (after ≡ before)
returns_unique laid r s after before p q = (p.answer ∙ sym q.answer, p.buffer ∙ sym q.buffer)

pub hears_as_unique : (laid : HearOutcome) (r s : ℤ) (after before : Listener) → HearsAs laid r after → HearsAs laid s before → (r ≡ s) × (after ≡ before)
hears_as_unique laid r s after before p q = (p.answer ∙ sym q.answer, p.rec ∙ sym q.rec)

pub runs_as_unique : (laid : ManyOutcome) (a b : Ran) → RunsAs laid a → RunsAs laid b → (a.code ≡ b.code) × (a.rec ≡ b.rec) × (a.taken ≡ b.taken)
runs_as_unique laid a b p q = (p.answer ∙ sym q.answer, p.rec ∙ sym q.rec, p.taken ∙ sym q.taken)

pub reads_as_unique : (laid : Read) (a b : MenuRead) → ReadsAs laid a → ReadsAs laid b → (a.code ≡ b.code) × (a.offer ≡ b.offer)
reads_as_unique laid a b p q = (p.answer ∙ sym q.answer, p.offer ∙ sym q.offer)

pub asks_as_unique : (laid : Asked) (a b : ItemAsked) → AsksAs laid a → AsksAs laid b → (a.code ≡ b.code) × (a.looked ≡ b.looked)
asks_as_unique laid a b p q = (p.answer ∙ sym q.answer, p.looked ∙ sym q.looked)

pub walks_as_unique : (laid : Walked) (a b : BlocksRead) → WalksAs laid a → WalksAs laid b → (a.code ≡ b.code) × (a.blocks ≡ b.blocks)
walks_as_unique laid a b p q = (p.answer ∙ sym q.answer, p.blocks ∙ sym q.blocks)

pub starts_as_unique : (laid : Start) (a b : CallerStart) → StartsAs laid a → StartsAs laid b → (a.code ≡ b.code) × (a.session ≡ b.session)
starts_as_unique laid a b p q = (p.answer ∙ sym q.answer, p.session ∙ sym q.session)

pub steps_as_unique : (laid : stepping.StepOutcome) (a b : StepTaken) → StepsAs laid a → StepsAs laid b → (a.code ≡ b.code) × (a.session ≡ b.session)
steps_as_unique laid a b p q = (p.answer ∙ sym q.answer, p.session ∙ sym q.session)

pub draws_as_unique : (laid : DrawOutcome) (a b : BitsDrawn) (after before : List ℕ) → DrawsAs laid a after → DrawsAs laid b before → (a.code ≡ b.code) × (a.bits ≡ b.bits) × (a.session ≡ b.session) × (after ≡ before)
draws_as_unique laid a b after before p q = (p.answer ∙ sym q.answer, p.bits ∙ sym q.bits, p.session ∙ sym q.session, p.buffer ∙ sym q.buffer)
