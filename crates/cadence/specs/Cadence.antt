-- Document 02, Req 04: the CI cadence, "counted in bits at 300 bit/s", as what stands at each bit place of it.
use Rattle.std.specs.Prelude.{ℕ, zero, suc, ◌+◌, ◌*◌, ◌%◌, Bool, List, [], ◌∷◌, ltb, leb, get_or}
use Rattle.laws.specs.Logic.{when, both}
use Rattle.octets.specs.declared.Kind.TheVariants.{Ci}
use Rattle.octets.specs.Octets.{call_function_tag, category_octet}
use Rattle.sequences.specs.Line.{sequence}

-- "CI sequences": the writer's bits for the one octet that names the function
abbrev pub ci_of : ℕ → List ℕ
ci_of function = sequence Ci (category_octet call_function_tag function ∷ [])

-- the call functions that a record has, 1 to 6
abbrev pub is_function : ℕ → Bool
is_function function = both (leb 1 function) (leb function 6)

-- "an on period of three to twenty whole CI sequences of 30 bits, an off period of 120 to 600 bits"
abbrev pub is_cadence : ℕ → ℕ → Bool
is_cadence on off = both (leb 3 on) (both (leb on 20) (both (leb 120 off) (leb off 600)))

-- how many bits an on period has, and both periods
abbrev pub on_bits : ℕ → ℕ
on_bits on = on * 30

abbrev pub period : ℕ → ℕ → ℕ
period on off = on_bits on + off

-- a bit time of silence in a lent buffer: it is no bit
abbrev pub silence : ℕ
silence = 2

-- "that one cadence": what stands at a place, counted from 0, without end
unfoldable pub cadence_at : ℕ → ℕ → ℕ → ℕ → ℕ
cadence_at function on off place =
    let within = place % period on off in
    when (ltb within (on_bits on)) (get_or (ci_of function) (within % 30) 0) silence

-- so many bits of it, from a place on; from place 0 on, its beginning
unfoldable pub bits_from : ℕ → ℕ → ℕ → ℕ → ℕ → List ℕ
bits_from function on off place zero = []
bits_from function on off place (suc n) = cadence_at function on off place ∷ bits_from function on off (suc place) n
