-- The lists of a plain text, sixteen entries in a line, read entry by entry. One law for damaged bits and for octets.
-- Assumes nothing.
use Rattle.std.proofs.Common.{◌≡◌, ℕ, ◌%◌, Bool, true, false, eqb, List, [], ◌∷◌, ◌++◌, refl, append_assoc}
use Rattle.laws.specs.Logic.{when, either}
use Rattle.laws.proofs.Logic.{either_way}
use Rattle.names.specs.Bytes.{bytes}
use Rattle.plans.specs.declared.Plan.{Plan}
use Rattle.plans.specs.declared.Reading.{Reading}
use Rattle.plans.specs.Text.{word_length}
use Rattle.plans.specs.Reading.{beginning, finish_line}
use Rattle.plans.specs.Plain.{entry_text}
use Rattle.plans.proofs.Runs.{Stops, stops_joined, Found, Run, join}
use Rattle.plans.proofs.Words.{Line, reading}

-- a line that may end here
abbrev pub Ends : Plan → Reading → Type 0
Ends plan r = (before : Line) × (finish_line r ≡ reading plan before beginning)

-- the lines of a list: behind their front its first entry may come, and behind each entry another, or the end of the line
pub record Lines (plan : Plan) (front : List ℕ) (first further : Reading) : Type 0 where
  pub begins : (r : Reading) (d : Found) → Ends plan r → Run r d front first d
  pub ends : Ends plan further

-- within a line its next entry is read, and at its end the line may end
abbrev pub Ready : Plan → Reading → ℕ → Reading → Type 0
Ready plan further count r = Ends plan r × (eqb (count % 16) 0 ≡ false → r ≡ further)

pub entry_stops : (front : List ℕ) → Stops front → (count : ℕ) (entry : List ℕ) → Stops (entry_text front count entry)
unfolding word_length bytes when either
entry_stops front stops count entry =
    rw (append_assoc (when (eqb (count % 16) 0) front []) (bytes " ") entry)
    (stops_joined (when (eqb (count % 16) 0) front []) (32 ∷ entry) (either_way Stops (eqb (count % 16) 0) front [] (λ _. stops) (λ _. refl)) refl)

module _ {plan : Plan} {front : List ℕ} {first further : Reading} (lines : Lines plan front first further) where
  pub ready_on : (count : ℕ) → Ready plan further count further
  ready_on count = (lines.ends, λ _. refl)

  -- an entry, which is read alike whether it is the first of its line or not
  module _ (count : ℕ) (entry : List ℕ) where
    pub entry_run : (d d' : Found) (r : Reading) → Ready plan further count r → Run first d (32 ∷ entry) further d' → Run further d (32 ∷ entry) further d' → Run r d (entry_text front count entry) further d'
    unfolding bytes when word_length either
    entry_run d d' r ready at_first at-further = rw (append_assoc (when (eqb (count % 16) 0) front []) (bytes " ") entry) (go (eqb (count % 16) 0) ready.1)
      where
        go : (t : Bool) → (t ≡ false → r ≡ further) → Run r d (when t front [] ++ (32 ∷ entry)) further d'
        go true _ = join (lines.begins r d ready.0) refl at_first
        go false go_on = rw (go_on refl) at-further
