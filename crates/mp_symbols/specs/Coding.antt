-- Tables as plain data, by which proofs tell them apart. No contract cites this.
use Rattle.std.specs.Prelude.{◌≡◌, refl, ℕ, ℤ, List, ◌⊎◌}
use Rattle.std.specs.Coded.{Coded, code_by, coded_ℕ, coded_ℤ, coded_list, coded×, coded⊎}
use Rattle.std.proofs.Common.{inl, inr}
use base.Stored.{coded_unit}
use Rattle.mp_symbols.specs.Names.{Names}
use Rattle.mp_symbols.specs.Tables.{Table}
use Rattle.mp_symbols.specs.declared.saved.Saved.{Saved}
use Rattle.mp_symbols.specs.declared.saved.Saved.TheVariants.{Boundary, Meaning, Number}

module _ {M : Type 0} where
  -- the parts of a thing to undo
  abbrev parts : Saved M → Unit {0} ⊎ ((ℕ × M) ⊎ (ℕ × ℤ))
  parts Boundary = inl tt
  parts (Meaning symbol old) = inr (inl (symbol, old))
  parts (Number k old) = inr (inr (k, old))

  abbrev joined : Unit {0} ⊎ ((ℕ × M) ⊎ (ℕ × ℤ)) → Saved M
  joined (inl x) = Boundary
  joined (inr (inl p)) = Meaning p.0 p.1
  joined (inr (inr p)) = Number p.0 p.1

  pub joined-parts : (entry : Saved M) → joined (parts entry) ≡ entry
  joined-parts Boundary = refl
  joined-parts (Meaning symbol old) = refl
  joined-parts (Number k old) = refl

  abbrev saved_code : Coded M → Coded (Saved M)
  saved_code m =
      code_by (Unit {0} ⊎ ((ℕ × M) ⊎ (ℕ × ℤ)))
      (coded⊎ coded_unit (coded⊎ (coded× coded_ℕ m) (coded× coded_ℕ coded_ℤ))) parts joined joined-parts

  abbrev pub table_code : Coded M → Coded (Table M)
  table_code m =
      code_by (Names M × (List ℤ × List (Saved M)))
      (coded× (coded_list (coded× (coded_list coded_ℕ) m)) (coded× (coded_list coded_ℤ) (coded_list (saved_code m))))
      (λ t. (t.names, (t.internals, t.saved))) (λ p. record { names = p.0; internals = p.1.0; saved = p.1.1 }) (λ _. refl)
