-- A cell goes from chain to chain.
use Rattle.std.proofs.Common.{◌≡◌, ◌≢◌, ◌<◌, ℕ, ◌+◌, ◌-◌, ◌∷◌, [], ◌++◌, List, arith, refl, ap, sym, ◌∙◌, cond, take, drop, length, get_or, set, suc, zero, subst, inl, inr}
use Rattle.std.specs.Prelude.{nat_eq}
use Rattle.std.proofs.lemmas.Bool.Decides.{nat_tests}
use Rattle.std.proofs.lemmas.Bool.{cases_eq}
use Rattle.std.proofs.lemmas.List.{get_or-map, get_or-set_same, get_or-set_other, length-set, length-map, same_lists}
use Rattle.mp_pool.specs.declared.Term.{Term}
use Rattle.mp_pool.specs.declared.cells.Cell.{Cell}
use Rattle.mp_pool.specs.declared.cells.Ends.{Ends}
use Rattle.mp_pool.specs.Storage.Chains.{cell_at, ends_at, terms_from, terms_of, chains_of, location_from, location, IsSound, IsShifted, no_ends, cells_in}
use Rattle.mp_pool.proofs.Totals.{cells_in-shifted}

-- one step further on
pub location-step : (cells : List Cell) (i k : ℕ) → location_from cells (suc i) k ≡ (cell_at cells (location_from cells i k)).next
location-step cells zero k = refl
location-step cells (suc i) k = location-step cells i (cell_at cells k).next

-- places stay where no earlier location changed
pub location-frame : (cells after : List Cell) (i k : ℕ) → ((j : ℕ) → j < i → (cell_at after (location_from cells j k)).next ≡ (cell_at cells (location_from cells j k)).next) →
    location_from after i k ≡ location_from cells i k
location-frame cells after zero k same = refl
location-frame cells after (suc i) k same =
    ap (location_from after i) (same 0 (omega arith)) ∙ location-frame cells after i (cell_at cells k).next (λ j h. same (suc j) (omega arith))

pub terms-frame : (cells after : List Cell) (n k : ℕ) → ((j : ℕ) → (cell_at after j).term ≡ (cell_at cells j).term) →
    ((j : ℕ) → j + 1 < n → (cell_at after (location_from cells j k)).next ≡ (cell_at cells (location_from cells j k)).next) →
    terms_from after n k ≡ terms_from cells n k
terms-frame cells after zero k terms same = refl
terms-frame cells after (suc zero) k terms same = ap (λ (t : Term). t ∷ []) (terms k)
terms-frame cells after (suc (suc n)) k terms same =
    ap (λ (t : Term). t ∷ terms_from after (suc n) (cell_at after k).next) (terms k)
    ∙ ap (λ (x : ℕ). (cell_at cells k).term ∷ terms_from after (suc n) x) (same 0 (omega arith))
    ∙ ap (λ (ts : List Term). (cell_at cells k).term ∷ ts) (terms-frame cells after (suc n) (cell_at cells k).next terms (λ j h. same (suc j) (omega arith)))

-- one more term at the end
pub terms-more : (cells : List Cell) (n k : ℕ) → terms_from cells (suc n) k ≡ terms_from cells n k ++ (cell_at cells (location_from cells n k)).term ∷ []
terms-more cells zero k = refl
terms-more cells (suc n) k = ap (λ (ts : List Term). (cell_at cells k).term ∷ ts) (terms-more cells n (cell_at cells k).next)

-- the chain and the location that a location after the shift comes from
pub back_chain : ℕ → ℕ → ℕ → ℕ → ℕ
back_chain from to c i = cond (nat_eq c from) (cond (nat_eq i 0) to from) c

pub back_location : ℕ → ℕ → ℕ → ℕ → ℕ
back_location from n c i = cond (nat_eq c from) (cond (nat_eq i 0) n (i - 1)) i

pub record Source (cells after : List Cell) (chains left : List Ends) (from to c i : ℕ) : Type 0 where
  pub chain : ℕ
  pub index : ℕ
  pub chain_in : chain < length chains
  pub index_in : index < (ends_at chains chain).length
  pub is : location after left c i ≡ location cells chains chain index
  pub chain_back : c ≡ back_chain from to chain index
  pub index_back : i ≡ back_location from (ends_at chains to).length chain index

module _ (cells after : List Cell) (chains left : List Ends) (from to : ℕ) (other : from ≢ to) (from_in : from < length chains) (to_in : to < length chains)
    (some : 0 < (ends_at chains from).length) (sound : IsSound cells chains) (s : IsShifted cells after chains left from to) where
  -- the last location of the target
  pub last_location : 0 < (ends_at chains to).length → (ends_at chains to).last ≡ location cells chains to ((ends_at chains to).length - 1)
  last_location more = sound.last to to_in ((ends_at chains to).length - 1) (omega arith)

  -- no other location was written
  pub next_same : (c i : ℕ) → c < length chains → i < (ends_at chains c).length → (c ≡ to → i + 1 < (ends_at chains to).length) →
      (cell_at after (location cells chains c i)).next ≡ (cell_at cells (location cells chains c i)).next
  next_same c i c_in i_in early = s.nexts (location cells chains c i)
      (λ more is. let a = sound.apart c i to ((ends_at chains to).length - 1) c_in to_in i_in (omega arith) (is ∙ last_location more) in
      let e : i + 1 < (ends_at chains to).length = early a.0 in omega arith)

  pub location_other : (c i : ℕ) → c < length chains → c ≢ from → c ≢ to → i < (ends_at chains c).length → location after left c i ≡ location cells chains c i
  location_other c i c_in not_from not_to i_in =
      ap (λ (e : Ends). location_from after i e.first) (s.others c not_from not_to)
      ∙ location-frame cells after i (ends_at chains c).first (λ j h. next_same c j c_in (omega arith) (λ e. absurd (not_to e)))

  pub location_from_source : (i : ℕ) → i + 1 < (ends_at chains from).length → location after left from i ≡ location cells chains from (suc i)
  location_from_source i i_in =
      ap (λ (e : Ends). location_from after i e.first) s.source
      ∙ location-frame cells after i (cell_at cells (ends_at chains from).first).next (λ j h. next_same from (suc j) from_in (omega arith) (λ e. absurd (other e)))

  pub first_target : 0 < (ends_at chains to).length → (ends_at left to).first ≡ (ends_at chains to).first
  first_target more = ap (λ (e : Ends). e.first) s.target ∙ grind (arith, nat_tests)

  pub location_target : (i : ℕ) → i < (ends_at chains to).length → location after left to i ≡ location cells chains to i
  location_target i i_in =
      ap (location_from after i) (first_target (omega arith))
      ∙ location-frame cells after i (ends_at chains to).first (λ j h. next_same to j to_in (omega arith) (λ e. omega arith))

  pub location_new : (n : ℕ) → (ends_at chains to).length ≡ n → location after left to n ≡ (ends_at chains from).first
  location_new zero none = ap (λ (e : Ends). e.first) s.target ∙ grind (arith, nat_tests)
  location_new (suc n) is =
      location-step after n (ends_at left to).first
      ∙ ap (λ (k : ℕ). (cell_at after k).next) (location_target n (omega arith) ∙ sym (sound.last to to_in n is))
      ∙ s.linked (omega arith)

  pub Sources : ℕ → ℕ → Type 0
  Sources c i = Source cells after chains left from to c i

  pub length_to : (ends_at left to).length ≡ (ends_at chains to).length + 1
  length_to = ap (λ (e : Ends). e.length) s.target

  pub length_from : (ends_at left from).length ≡ (ends_at chains from).length - 1
  length_from = ap (λ (e : Ends). e.length) s.source

  pub length_other : (c : ℕ) → c ≢ from → c ≢ to → (ends_at left c).length ≡ (ends_at chains c).length
  length_other c not_from not_to = ap (λ (e : Ends). e.length) (s.others c not_from not_to)

  pub source_to_old : (i : ℕ) → i < (ends_at chains to).length → Sources to i
  unfolding Sources back_chain back_location
  source_to_old i h = record {
    chain = to;
    index = i;
    chain_in = to_in;
    index_in = h;
    is = location_target i h;
    chain_back = grind (arith, nat_tests);
    index_back = grind (arith, nat_tests);
  }

  pub source_to_new : (i : ℕ) → (ends_at chains to).length ≡ i → Sources to i
  unfolding Sources back_chain back_location
  source_to_new i h = record {
    chain = from;
    index = 0;
    chain_in = from_in;
    index_in = some;
    is = location_new i h;
    chain_back = grind (arith, nat_tests);
    index_back = grind (arith, nat_tests);
  }

  pub source_from : (i : ℕ) → i + 1 < (ends_at chains from).length → Sources from i
  unfolding Sources back_chain back_location
  source_from i h = record {
    chain = from;
    index = suc i;
    chain_in = from_in;
    index_in = omega arith;
    is = location_from_source i h;
    chain_back = grind (arith, nat_tests);
    index_back = grind (arith, nat_tests);
  }

  pub source_other : (c i : ℕ) → c < length chains → c ≢ from → c ≢ to → i < (ends_at chains c).length → Sources c i
  unfolding Sources back_chain back_location
  source_other c i c_in not_from not_to h = record {
    chain = c;
    index = i;
    chain_in = c_in;
    index_in = h;
    is = location_other c i c_in not_from not_to h;
    chain_back = grind (arith, nat_tests);
    index_back = grind (arith, nat_tests);
  }

  pub source_of : (c i : ℕ) → c < length left → i < (ends_at left c).length → Sources c i
  source_of c i c_in i_in =
      elim (cases_eq c to) [
        | inl e ↦ let h : i < (ends_at left to).length = subst (λ (x : ℕ). i < (ends_at left x).length) e i_in in
            subst (λ (x : ℕ). Sources x i) (sym e)
            (elim (cases_eq (ends_at chains to).length i) [
              | inl k ↦ source_to_new i k
              | inr k ↦ source_to_old i (let l = length_to in omega arith)
            ])
        | inr not_to ↦ elim (cases_eq c from) [
          | inl e ↦ let h : i < (ends_at left from).length = subst (λ (x : ℕ). i < (ends_at left x).length) e i_in in
              subst (λ (x : ℕ). Sources x i) (sym e) (source_from i (let l = length_from in omega arith))
          | inr not_from ↦ source_other c i (let l = s.same_chains in omega arith) not_from not_to (let l = length_other c not_from not_to in omega arith)
        ]
      ]

  pub last_after : (c : ℕ) → c < length left → (n : ℕ) → (ends_at left c).length ≡ suc n → (ends_at left c).last ≡ location after left c n
  last_after c c_in n is =
      elim (cases_eq c to) [
        | inl e ↦ let h : (ends_at left to).length ≡ suc n = subst (λ (x : ℕ). (ends_at left x).length ≡ suc n) e is in
            subst (λ (x : ℕ). (ends_at left x).last ≡ location after left x n) (sym e)
            (ap (λ (x : Ends). x.last) s.target ∙ sym (location_new n (let l = length_to in omega arith)))
        | inr not_to ↦ elim (cases_eq c from) [
          | inl e ↦ let h : (ends_at left from).length ≡ suc n = subst (λ (x : ℕ). (ends_at left x).length ≡ suc n) e is in
              let l = length_from in
              subst (λ (x : ℕ). (ends_at left x).last ≡ location after left x n) (sym e)
              (ap (λ (x : Ends). x.last) s.source ∙ sound.last from from_in (suc n) (omega arith) ∙ sym (location_from_source n (omega arith)))
          | inr not_from ↦
              let l = length_other c not_from not_to in let m = s.same_chains in
              ap (λ (x : Ends). x.last) (s.others c not_from not_to) ∙ sound.last c (omega arith) n (omega arith)
              ∙ sym (location_other c n (omega arith) not_from not_to (omega arith))
        ]
      ]

  pub sound_after : IsSound after left
  unfolding Sources
  sound_after = record {
    within = λ c i c_in i_in. let o = source_of c i c_in i_in in
        let w = sound.within o.chain o.index o.chain_in o.index_in in let e = o.is in let l = s.same_cells in rw (e, l) w;
    last = last_after;
    total = ap cells_in s.is ∙ cells_in-shifted chains from to _ _ from_in to_in other (let l = length_from in omega arith) length_to ∙ sound.total ∙ sym s.same_cells;
    few = let l = s.same_cells in let n = sound.few in omega arith;
    apart = λ c i d j c_in d_in i_in j_in same.
        let o = source_of c i c_in i_in in
        let p = source_of d j d_in j_in in
        let a = sound.apart o.chain o.index p.chain p.index o.chain_in p.chain_in o.index_in p.index_in (sym o.is ∙ same ∙ p.is) in
        let x = a.0 in let y = a.1 in let oc = o.chain_back in let oi = o.index_back in let pc = p.chain_back in let pi = p.index_back in
        (cc, cc);
  }

  -- what the chains hold
  pub terms_kept : (n : ℕ) → (ends_at chains to).length ≡ n → terms_from after n (ends_at left to).first ≡ terms_from cells n (ends_at chains to).first
  terms_kept zero is = refl
  terms_kept (suc n) is =
      ap (terms_from after (suc n)) (first_target (omega arith))
      ∙ terms-frame cells after (suc n) (ends_at chains to).first s.terms (λ j h. next_same to j to_in (omega arith) (λ e. omega arith))

  pub first_term : (n : ℕ) → (ends_at chains from).length ≡ suc n → take 1 (terms_of cells (ends_at chains from)) ≡ (cell_at cells (ends_at chains from).first).term ∷ []
  first_term n is = ap (λ (m : ℕ). take 1 (terms_from cells m (ends_at chains from).first)) is

  pub terms_to : terms_of after (ends_at left to) ≡ terms_of cells (ends_at chains to) ++ take 1 (terms_of cells (ends_at chains from))
  terms_to =
      let n = (ends_at chains to).length in
      let is : (ends_at left to).length ≡ suc n = length_to ∙ omega arith in
      let pred : (ends_at chains from).length ≡ suc ((ends_at chains from).length - 1) = omega arith in
      ap (λ (m : ℕ). terms_from after m (ends_at left to).first) is
      ∙ terms-more after n (ends_at left to).first
      ∙ ap (λ (ts : List Term). ts ++ (cell_at after (location_from after n (ends_at left to).first)).term ∷ []) (terms_kept n refl)
      ∙ ap (λ (k : ℕ). terms_of cells (ends_at chains to) ++ (cell_at after k).term ∷ []) (location_new n refl)
      ∙ ap (λ (t : Term). terms_of cells (ends_at chains to) ++ t ∷ []) (s.terms (ends_at chains from).first)
      ∙ ap (λ (ts : List Term). terms_of cells (ends_at chains to) ++ ts) (sym (first_term _ pred))

  pub terms_source_at : (n : ℕ) → (ends_at chains from).length ≡ suc n → terms_of after (ends_at left from) ≡ drop 1 (terms_of cells (ends_at chains from))
  terms_source_at n is =
      let pred : (ends_at chains from).length - 1 ≡ n = omega arith in
      ap (terms_of after) s.source
      ∙ ap (λ (m : ℕ). terms_from after m (cell_at cells (ends_at chains from).first).next) pred
      ∙ terms-frame cells after n (cell_at cells (ends_at chains from).first).next s.terms (λ j h. next_same from (suc j) from_in (omega arith) (λ e. absurd (other e)))
      ∙ ap (λ (m : ℕ). drop 1 (terms_from cells m (ends_at chains from).first)) (sym is)

  pub terms_source : terms_of after (ends_at left from) ≡ drop 1 (terms_of cells (ends_at chains from))
  terms_source = terms_source_at ((ends_at chains from).length - 1) (omega arith)

  pub terms_other : (c : ℕ) → c < length chains → c ≢ from → c ≢ to → terms_of after (ends_at left c) ≡ terms_of cells (ends_at chains c)
  terms_other c c_in not_from not_to =
      ap (terms_of after) (s.others c not_from not_to)
      ∙ terms-frame cells after (ends_at chains c).length (ends_at chains c).first s.terms (λ j h. next_same c j c_in (omega arith) (λ e. absurd (not_to e)))

  pub chain_after : (k : ℕ) (d : List Term) → k < length left →
      get_or (chains_of after left) k d
      ≡ get_or (set (set (chains_of cells chains) from (drop 1 (terms_of cells (ends_at chains from)))) to
      (terms_of cells (ends_at chains to) ++ take 1 (terms_of cells (ends_at chains from)))) k d
  chain_after k d k_in =
      let n = s.same_chains in
      get_or-map (terms_of after) left k no_ends d k_in
      ∙ elim (cases_eq k to) [
        | inl e ↦ ap (λ (x : ℕ). terms_of after (ends_at left x)) e ∙ terms_to
            ∙ sym (ap (λ (x : ℕ). get_or (set (set (chains_of cells chains) from (drop 1 (terms_of cells (ends_at chains from)))) to
            (terms_of cells (ends_at chains to) ++ take 1 (terms_of cells (ends_at chains from)))) x d) e
            ∙ get_or-set_same _ to _ d (simp (length-set, length-map) to_in))
        | inr not_to ↦ elim (cases_eq k from) [
          | inl e ↦ ap (λ (x : ℕ). terms_of after (ends_at left x)) e ∙ terms_source
              ∙ sym (get_or-set_other _ to k _ d not_to
              ∙ ap (λ (x : ℕ). get_or (set (chains_of cells chains) from (drop 1 (terms_of cells (ends_at chains from)))) x d) e
              ∙ get_or-set_same _ from _ d (simp length-map from_in))
          | inr not_from ↦ terms_other k (omega arith) not_from not_to
              ∙ sym (get_or-set_other _ to k _ d not_to ∙ get_or-set_other _ from k _ d not_from ∙ get_or-map (terms_of cells) chains k no_ends d (omega arith))
        ]
      ]

  pub chains_after : chains_of after left
      ≡ set (set (chains_of cells chains) from (drop 1 (terms_of cells (ends_at chains from)))) to
      (terms_of cells (ends_at chains to) ++ take 1 (terms_of cells (ends_at chains from)))
  chains_after = same_lists _ _ (simp (length-set, length-map) s.same_chains)
      (λ k d h. chain_after k d (simp length-map at h))
