-- What is laid down for each call, as a C program gets it: the answer as a number, what was lent, and the structs of include/tailsprig.h.
use Rattle.std.specs.Prelude.{◌≡◌, List, ℕ, ℤ}
use Rattle.refusals.specs.Lent.{WriteOutcome}
use Rattle.listening.specs.declared.Listener.{Listener}
use Rattle.listening.specs.Hearing.{HearOutcome, ManyOutcome}
use Rattle.menus.specs.Offer.{Read}
use Rattle.menus.specs.Asking.{Asked}
use Rattle.fields.specs.Blocks.{Walked}
use Rattle.steps.specs.Session.{Start}
use Rattle.steps.specs.Stepping as stepping
use Rattle.steps.specs.Drawing.{DrawOutcome}
use Rattle.codes.specs.Writing.{write_code}
use Rattle.codes.specs.Hearing.{told_code}
use Rattle.codes.specs.Reading.{read_code, read_offer, asked_code, asked_count, walk_code, walk_count}
use Rattle.codes.specs.Steps.{start_code, start_session, step_code, draw_code, draw_count}
use Rattle.tailsprig.specs.declared.Ran.{Ran}
use Rattle.tailsprig.specs.declared.MenuRead.{MenuRead}
use Rattle.tailsprig.specs.declared.ItemAsked.{ItemAsked}
use Rattle.tailsprig.specs.declared.BlocksRead.{BlocksRead}
use Rattle.tailsprig.specs.declared.CallerStart.{CallerStart}
use Rattle.tailsprig.specs.declared.StepTaken.{StepTaken}
use Rattle.tailsprig.specs.declared.BitsDrawn.{BitsDrawn}

-- a call that writes
pub record Returns (laid : WriteOutcome) (r : ℤ) (after : List ℕ) : Type 0 where
  pub answer : r ≡ write_code laid.answer
  pub buffer : after ≡ laid.buffer

-- a bit
pub record HearsAs (laid : HearOutcome) (r : ℤ) (after : Listener) : Type 0 where
  pub answer : r ≡ told_code laid.report
  pub rec : after ≡ laid.rec

-- many bits
pub record RunsAs (laid : ManyOutcome) (r : Ran) : Type 0 where
  pub answer : r.code ≡ told_code laid.report
  pub rec : r.rec ≡ laid.rec
  pub taken : r.taken ≡ laid.taken

-- a menu that is read
pub record ReadsAs (laid : Read) (r : MenuRead) : Type 0 where
  pub answer : r.code ≡ read_code laid
  pub offer : r.offer ≡ read_offer laid

-- an item that is asked for
pub record AsksAs (laid : Asked) (r : ItemAsked) : Type 0 where
  pub answer : r.code ≡ asked_code laid
  pub looked : r.looked ≡ asked_count laid

-- blocks that are counted
pub record WalksAs (laid : Walked) (r : BlocksRead) : Type 0 where
  pub answer : r.code ≡ walk_code laid
  pub blocks : r.blocks ≡ walk_count laid

-- a caller's start
pub record StartsAs (laid : Start) (r : CallerStart) : Type 0 where
  pub answer : r.code ≡ start_code laid
  pub session : r.session ≡ start_session laid

-- a step
pub record StepsAs (laid : stepping.StepOutcome) (r : StepTaken) : Type 0 where
  pub answer : r.code ≡ step_code laid.answer
  pub session : r.session ≡ laid.session

-- bits that are asked for
pub record DrawsAs (laid : DrawOutcome) (r : BitsDrawn) (after : List ℕ) : Type 0 where
  pub answer : r.code ≡ draw_code laid.answer
  pub bits : r.bits ≡ draw_count laid.answer
  pub session : r.session ≡ laid.session
  pub buffer : after ≡ laid.buffer
