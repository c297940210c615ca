-- What the private functions of this crate promise each other. No public promise names it.
use Rattle.std.specs.Prelude.{Result, Ok, Err, ℤ, pos, neg_ℤ}
use Rattle.refusals.specs.declared.Refusal.{Refusal}
use Rattle.refusals.specs.Refusals.{number}

-- what is answered, or what stands beside a refusal
abbrev pub value_beside : {T : Type 0} → Result T Refusal → T → T
value_beside (Ok value) refused = value
value_beside (Err r) refused = refused

-- 0, or a refusal n as -n
abbrev pub code_beside : {T : Type 0} → Result T Refusal → ℤ
code_beside (Ok value) = pos 0
code_beside (Err r) = neg_ℤ (pos (number r))
