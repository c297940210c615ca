-- A CM that is made, and a JM, is accepted by the writer, and reads back as what was meant.
-- Assumes nothing.
use Prim.Native.Nat.{ℕ, ◌≤◌}
use mathlib.Core.Path.{◌≡◌, ap, ◌∙◌}
use mathlib.Core.List.{List}
use lib.ListN.{length}
use Rattle.menus.specs.Offer.{offers}
use Rattle.menus.proofs.Reading.{menu_read_lem}
use Rattle.records.specs.declared.Record.{Record}
use Rattle.records.specs.Record.{in_use}
use Rattle.offers.specs.Offering.{cm_offer}
use Rattle.offers.proofs.Making.{size_fits}
use Rattle.offers.proofs.Meaning.{menu_readable, menu_writable}
use Rattle.offers.proofs.Fields.{with_readable, with_writable}
use Rattle.demands.specs.Joint.{AcceptedRecord, cm_of, jm_of, jm_says, IsReadBack}
use Rattle.demands.proofs.Joint.{cm_back, offered, counted, jm_back}

module _ (own : Record) (heard : List ℕ) where
  module _ (good : AcceptedRecord own) where
    pub jm_is_read_back : length (jm_of own heard) ≤ 64 → IsReadBack (jm_of own heard) (jm_says own heard)
    jm_is_read_back fits = record {
      written = menu_writable (counted own heard) (offered own heard) fits;
      read = menu_read_lem (jm_of own heard) (menu_readable (counted own heard) (offered own heard) fits) ∙ ap offers (jm_back own heard good);
    }

pub cm_is_read_back : (own : Record) → AcceptedRecord own → (function : ℕ) (blocks : List ℕ) → (in_use own function).available ≡ 1 → length (cm_of own function blocks) ≤ 64 → IsReadBack (cm_of own function blocks) (cm_offer own function)
cm_is_read_back own good function blocks there short = record {
  written = with_writable (cm_offer own function) blocks (size_fits (cm_of own function blocks) short);
  read = menu_read_lem (cm_of own function blocks) (with_readable (cm_offer own function) blocks (size_fits (cm_of own function blocks) short)) ∙ ap offers (cm_back own good function blocks there);
}
