-- On what is left of a body with its arguments.
use Rattle.std.proofs.Common.{◌≡◌, ◌∙◌, refl, ap, ℕ, zero, suc, ◌+◌, List, [], ◌∷◌, drop, Some, None, add-one}
use Rattle.std.specs.List.{slice_get}
use Rattle.mp_values.specs.declared.item.Item.{Item}
use Rattle.mp_values.specs.Substitution.{stands_for, substitute}
use Rattle.mp_input.specs.Texts.{substitute_behind, text_left, past, behind}
use Rattle.mp_input.specs.declared.text.Position.{Position}
use Rattle.mp_values.specs.declared.item.Item.TheVariants as item

-- an element that is there is the first behind those before it
pub drop-some : {A : Type 0} (xs : List A) (i : ℕ) (x : A) → slice_get xs i ≡ Some x → drop i xs ≡ x ∷ drop (suc i) xs
drop-some [] i x e = cc
drop-some (y ∷ ys) zero x e = let e : y ≡ x = cc in ap (λ z. z ∷ ys) e
drop-some (y ∷ ys) (suc i) x e = drop-some ys i x e

-- past the end nothing is left
pub drop-none : {A : Type 0} (xs : List A) (i : ℕ) → slice_get xs i ≡ None → drop i xs ≡ []
drop-none [] zero e = refl
drop-none [] (suc i) e = refl
drop-none (y ∷ ys) zero e = cc
drop-none (y ∷ ys) (suc i) e = drop-none ys i e

pub behind-none : (xs : List Item) (args : List (List Item)) → substitute_behind xs 0 args ≡ substitute xs args
behind-none [] args = refl
behind-none (x ∷ xs) args = refl

goes : (body : List Item) (at inner : ℕ) (args : List (List Item)) (x y : Item)
    → slice_get body at ≡ Some x → slice_get (stands_for args x) inner ≡ Some y
    → substitute_behind (drop at body) inner args ≡ y ∷ substitute_behind (drop at body) (inner + 1) args
goes body at inner args x y e f =
    rw (drop-some body at x e, drop-some (stands_for args x) inner y f, add-one) refl

passes : (body : List Item) (at inner : ℕ) (args : List (List Item)) (x : Item)
    → slice_get body at ≡ Some x → slice_get (stands_for args x) inner ≡ None
    → substitute_behind (drop at body) inner args ≡ substitute_behind (drop (at + 1) body) 0 args
passes body at inner args x e f =
    rw (drop-some body at x e, drop-none (stands_for args x) inner f, add-one, behind-none (drop (suc at) body) args) refl

-- what is no parameter gives itself alone
moves : (body : List Item) (at inner : ℕ) (args : List (List Item)) (x y : Item)
    → slice_get body at ≡ Some x → slice_get (stands_for args x) inner ≡ Some y → slice_get (stands_for args x) (inner + 1) ≡ None
    → substitute_behind (drop at body) inner args ≡ y ∷ substitute_behind (drop (at + 1) body) 0 args
moves body at inner args x y e f g =
    goes body at inner args x y e f ∙ ap (λ t. y ∷ t) (passes body at (inner + 1) args x e g)

-- the item that the first of the body gives comes first
pub text_moves : (body : List Item) (p : Position) (args : List (List Item)) (x y : Item)
    → slice_get body p.at ≡ Some x → slice_get (stands_for args x) p.inner ≡ Some y
    → text_left body p args ≡ y ∷ text_left body (behind x p) args
text_moves body p args (item.Param n) y e f = goes body p.at p.inner args (item.Param n) y e f
text_moves body p args (item.Symbol s) y e f = moves body p.at p.inner args (item.Symbol s) y e f (rw add-one refl)
text_moves body p args (item.Number s) y e f = moves body p.at p.inner args (item.Number s) y e f (rw add-one refl)
text_moves body p args (item.Text s) y e f = moves body p.at p.inner args (item.Text s) y e f (rw add-one refl)
text_moves body p args (item.Bad s) y e f = moves body p.at p.inner args (item.Bad s) y e f (rw add-one refl)
text_moves body p args (item.Capsule s) y e f = moves body p.at p.inner args (item.Capsule s) y e f (rw add-one refl)
text_moves body p args (item.LineEnd s) y e f = moves body p.at p.inner args (item.LineEnd s) y e f (rw add-one refl)
text_moves body p args item.FileEnd y e f = moves body p.at p.inner args item.FileEnd y e f (rw add-one refl)
text_moves body p args item.EndOfText y e f = moves body p.at p.inner args item.EndOfText y e f (rw add-one refl)

-- where it gives no more, the next of the body does
pub text_passes : (body : List Item) (p : Position) (args : List (List Item)) (x : Item)
    → slice_get body p.at ≡ Some x → slice_get (stands_for args x) p.inner ≡ None
    → text_left body p args ≡ text_left body (past p) args
text_passes body p args x e f = passes body p.at p.inner args x e f

-- past the end of the body nothing is left
pub text_ends : (body : List Item) (p : Position) (args : List (List Item)) → slice_get body p.at ≡ None → text_left body p args ≡ []
text_ends body p args e = rw (drop-none body p.at e) refl
