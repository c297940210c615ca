-- Octets of a text, written one by one at the front of a buffer: those that are written so far and those to come are all of them.
-- Assumes nothing.
use Rattle.std.proofs.Common.{◌≡◌, ℕ, ◌+◌, List, [], ◌∷◌, ◌++◌, length, take, set, sym, refl, ap, ◌∙◌, append_assoc, append-nil, length-append}
use lib.Seq.{take-nil}
use Rattle.laws.specs.Front.{front}

-- as much of a list as there is room for, at the front of a buffer
abbrev pub fitted : List ℕ → List ℕ → List ℕ
fitted list old = front (take (length old) list) old

pub fitted_none : (old : List ℕ) → fitted [] old ≡ old
fitted_none old = simp (take-nil {A = ℕ} (length old))

-- one more, or nothing where there is no room for it
one_more : (list old : List ℕ) (b : ℕ) → set (fitted list old) (length list) b ≡ fitted (list ++ (b ∷ [])) old
one_more [] [] b = refl
one_more [] (x ∷ old) b = ap (λ (rest : List ℕ). b ∷ rest) (sym (fitted_none old))
one_more (y ∷ list) [] b = refl
one_more (y ∷ list) (x ∷ old) b = ap (λ (rest : List ℕ). y ∷ rest) (one_more list old b)

-- so many are written, and the rest is to come
pub record Written (all rest old now : List ℕ) (n : ℕ) : Type 0 where
  pub so_far : List ℕ
  pub joined : so_far ++ rest ≡ all
  pub count : n ≡ length so_far
  pub buffer : now ≡ fitted so_far old

pub written_none : (all old : List ℕ) → Written all all old old 0
written_none all old = record { so_far = []; joined = refl; count = refl; buffer = sym (fitted_none old) }

module _ {all rest old now : List ℕ} {n : ℕ} (written : Written all rest old now n) where
  pub written_one : (b : ℕ) (rest' now' : List ℕ) (n' : ℕ) → rest ≡ b ∷ rest' → now' ≡ set now n b → n' ≡ n + 1 → Written all rest' old now' n'
  written_one b rest' now' n' is-next is-now is-count = record {
    so_far = written.so_far ++ (b ∷ []);
    joined = append_assoc written.so_far (b ∷ []) rest' ∙ ap (λ (more : List ℕ). written.so_far ++ more) (sym is-next) ∙ written.joined;
    count = is-count ∙ ap (λ (k : ℕ). k + 1) written.count ∙ sym (length-append written.so_far (b ∷ []));
    buffer = is-now ∙ simp (written.buffer, written.count) (one_more written.so_far old b);
  }

  pub written_on : (rest' now' : List ℕ) (n' : ℕ) → rest ≡ rest' → now' ≡ now → n' ≡ n → Written all rest' old now' n'
  written_on rest' now' n' same is-now is-count = record {
    so_far = written.so_far;
    joined = ap (λ (more : List ℕ). written.so_far ++ more) (sym same) ∙ written.joined;
    count = is-count ∙ written.count;
    buffer = is-now ∙ written.buffer;
  }

  pub written_all : rest ≡ [] → (n ≡ length all) × (now ≡ fitted all old)
  written_all none_left =
      let is_all : written.so_far ≡ all = sym (append-nil written.so_far) ∙ ap (λ (more : List ℕ). written.so_far ++ more) (sym none_left) ∙ written.joined in
      (written.count ∙ ap length is_all, written.buffer ∙ ap (λ (list : List ℕ). fitted list old) is_all)
