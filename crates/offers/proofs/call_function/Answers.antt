-- `offers::call_function` meets its contract: the source decides whose first octet is handed back.
-- Assumes nothing.
use Rattle.menus.proofs.Looking.{stands_at_front}
use Rattle.offers.proofs.call_function.Goals as goal

pub returns-in-Heard : goal.returns-in-Heard
returns-in-Heard c =
    record { result_value = simp (c.first_of.ensures.result_value, ← c.call_source.ensures, c.in-Heard.is); ref_ptr_value = simp (c.first_of.ensures.ref_ptr_value, ← c.call_source.ensures, c.in-Heard.is) }

pub returns-in-Own : goal.returns-in-Own
returns-in-Own c = record { result_value = simp (c.first_of-in-Own.ensures.result_value, ← c.call_source.ensures, c.in-Own.is); ref_ptr_value = simp (c.first_of-in-Own.ensures.ref_ptr_value, ← c.call_source.ensures, c.in-Own.is) }

pub returns-in-Neither : goal.returns-in-Neither
returns-in-Neither c = record { result_value = simp (← c.call_source.ensures, c.in-Neither.is); ref_ptr_value = simp (← c.call_source.ensures, c.in-Neither.is) (stands_at_front c.args.heard_cm.ref_ptr) }
