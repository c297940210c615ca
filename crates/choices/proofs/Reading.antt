-- A menu that was refused is answered with its refusal; and that choices are known by what they say.
-- Assumes nothing.
use Rattle.std.specs.Prelude.{ℕ, List, Result, Ok, Err}
use mathlib.Core.Path.{◌≡◌, refl, sym, ap, ◌∙◌}
use Rattle.refusals.specs.declared.Refusal.{Refusal}
use Rattle.refusals.specs.Refusals.{number}
use Rattle.refusals.proofs.Numbers.{named, named_number}
use Rattle.menus.specs.declared.Offer.{Offer}
use Rattle.menus.specs.Offer.{Read, says_read, menu_read}
use Rattle.choices.specs.declared.Choice.{Choice}
use Rattle.choices.specs.declared.Choice.TheVariants.{Nothing, Mode, Pcm}
use Rattle.choices.specs.Choosing.{Chosen, none, item, pcm, refusal, says_choice, on_read}

pub on_refused : (octets : List ℕ) (menu : Result Offer Refusal) (read : says_read menu ≡ menu_read octets) (go : Offer → Chosen) (r : Refusal) → menu ≡ Err r → refusal (number r) ≡ on_read (menu_read octets) go
on_refused octets menu read go r e = ap (λ (m : Read). on_read m go) (ap says_read (sym e) ∙ read)

-- no two answers say the same
abbrev choosing : Chosen → Result Choice Refusal
choosing none = Ok Nothing
choosing (item i) = Ok (Mode (record { 0 = i }))
choosing (pcm options) = Ok (Pcm options)
choosing (refusal n) = Err (named n)

choosing_says : (c : Result Choice Refusal) → choosing (says_choice c) ≡ c
choosing_says (Ok Nothing) = refl
choosing_says (Ok (Mode i)) = refl
choosing_says (Ok (Pcm options)) = refl
choosing_says (Err r) = ap (λ (n : Refusal). Err n) (named_number r)

pub says_choice_injective : (c d : Result Choice Refusal) → says_choice c ≡ says_choice d → c ≡ d
says_choice_injective c d e = sym (choosing_says c) ∙ ap choosing e ∙ choosing_says d
