-- The texts of forms, built term by term.
use Rattle.std.proofs.Common.{◌≡◌, ℕ, ◌+◌, ◌<◌, ◌≤◌, List, ◌∷◌, ◌++◌, Option, Some, length, get_or, drop, sym, ap, ◌∙◌, add-one, drop-cons}
use Rattle.std.proofs.lemmas.List.{drop_all, append-nil, append_assoc}
use Rattle.mp_pool.specs.declared.Term.{Term}
use Rattle.mp_solver.specs.States.{Unknowns}
use Rattle.mp_vartree.specs.declared.names.Part.{Part}
use Rattle.mp_acts.specs.State.{State}
use Rattle.mp_acts.specs.Suffixes.{part_text, parts_text}
use Rattle.mp_acts.specs.Texts.{sign, unsigned_term, more_terms}

module _ (unknowns : Unknowns) (ts : List Term) where
  -- the next term added
  pub terms_step : (i : ℕ) (d : Term) (before after : List ℕ) → i < length ts
      → after ≡ before ++ (sign (get_or ts i d).coefficient ++ unsigned_term unknowns (get_or ts i d))
      → after ++ more_terms unknowns (drop (i + 1) ts) ≡ before ++ more_terms unknowns (drop i ts)
  unfolding more_terms
  terms_step i d before after within added =
      let next : drop i ts ≡ get_or ts i d ∷ drop (i + 1) ts = rw add-one (drop-cons ts i d within) in
      ap (λ text. text ++ more_terms unknowns (drop (i + 1) ts)) added
      ∙ append_assoc before (sign (get_or ts i d).coefficient ++ unsigned_term unknowns (get_or ts i d)) (more_terms unknowns (drop (i + 1) ts))
      ∙ sym (ap (λ left. before ++ more_terms unknowns left) next)

  -- all terms added
  pub terms_end : (i : ℕ) (text : List ℕ) → length ts ≤ i → text ++ more_terms unknowns (drop i ts) ≡ text
  unfolding more_terms
  terms_end i text past = ap (λ left. text ++ more_terms unknowns left) (drop_all i ts past) ∙ append-nil text

module _ (s : State) (ps : List Part) where
  -- the next part of a name added
  pub parts_step : (i : ℕ) (d : Part) (before after : List ℕ) (last : Option Part) → i < length ps → after ≡ before ++ part_text s last (get_or ps i d)
      → after ++ parts_text s (Some (get_or ps i d)) (drop (i + 1) ps) ≡ before ++ parts_text s last (drop i ps)
  unfolding parts_text
  parts_step i d before after last within added =
      let next : drop i ps ≡ get_or ps i d ∷ drop (i + 1) ps = rw add-one (drop-cons ps i d within) in
      ap (λ text. text ++ parts_text s (Some (get_or ps i d)) (drop (i + 1) ps)) added
      ∙ append_assoc before (part_text s last (get_or ps i d)) (parts_text s (Some (get_or ps i d)) (drop (i + 1) ps))
      ∙ sym (ap (λ left. before ++ parts_text s last left) next)

  -- all parts added
  pub parts_end : (i : ℕ) (text : List ℕ) (last : Option Part) → length ps ≤ i → text ++ parts_text s last (drop i ps) ≡ text
  unfolding parts_text
  parts_end i text last past = ap (λ left. text ++ parts_text s last left) (drop_all i ps past) ∙ append-nil text

-- a sign and a term, the terms behind them, and the constant
pub sum_of_parts : (t0 t1 t2 t3 sign term rest last : List ℕ) → t1 ≡ t0 ++ (sign ++ term) → t2 ≡ t1 ++ rest → t3 ≡ t2 ++ last → t3 ≡ t0 ++ (((sign ++ term) ++ rest) ++ last)
sum_of_parts t0 t1 t2 t3 sign term rest last h1 h2 h3 =
    h3 ∙ ap (λ t. t ++ last) (h2 ∙ ap (λ t. t ++ rest) h1 ∙ append_assoc t0 (sign ++ term) rest) ∙ append_assoc t0 ((sign ++ term) ++ rest) last
