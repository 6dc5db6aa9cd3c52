-- On the last place of a byte in a text, at which the text is split.
use Rattle.std.proofs.Common.{◌≡◌, ◌<◌, ◌≤◌, ◌+◌, ◌-◌, ℕ, zero, suc, List, length, Option, Some, None, refl, sym, ap, ◌∙◌, arith, slice_index_or, drop, take}
use Rattle.std.specs.Option.{option_map}
use Rattle.std.specs.Path.{rfind_below, rsplit_once}
use Rattle.std.proofs.lemmas.Bool.Decides.{nat_tests}
use Rattle.std.proofs.lemmas.List.{length-drop}
use Rattle.std.proofs.Math.Seq.{take-length}

-- the last of the first bytes is the byte
pub found_here : (c : ℕ) (text : List ℕ) (n : ℕ) → 0 < n → slice_index_or text (n - 1) 0 ≡ c → rfind_below c text n ≡ Some (n - 1)
found_here c text zero p e = absurd (omega arith)
found_here c text (suc n) p e = grind (arith, nat_tests)

pub split_nowhere : (c : ℕ) (text : List ℕ) (found : Option ℕ) → rfind_below c text (length text) ≡ found → found ≡ None → None ≡ rsplit_once c text
unfolding rsplit_once
split_nowhere c text found e f = sym (ap (option_map (λ i. (take i text, drop (i + 1) text))) (e ∙ f))

rest_whole : (i : ℕ) (text : List ℕ) → take (length text - i) (drop i text) ≡ drop i text
rest_whole i text = ap (λ n. take n (drop i text)) (sym (length-drop i text)) ∙ take-length (drop i text)

pub split_here : (c : ℕ) (text : List ℕ) (found : Option ℕ) (i : ℕ) → rfind_below c text (length text) ≡ found → found ≡ Some i
    → Some (take i text, take (length text - (i + 1)) (drop (i + 1) text)) ≡ rsplit_once c text
unfolding rsplit_once
split_here c text found i e f =
    ap (λ rest. Some (take i text, rest)) (rest_whole (i + 1) text) ∙ sym (ap (option_map (λ i. (take i text, drop (i + 1) text))) (e ∙ f))
