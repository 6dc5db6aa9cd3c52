use Rattle.std.proofs.Common.{ℕ, append_assoc, ◌≡◌, ◌≤◌, ◌+◌, ◌-◌, ◌∙◌, List, [], ◌∷◌, ◌++◌, length, get_or, take, drop, map, refl, arith, length-append, length-drop}
use Rattle.std.specs.List.{All, sum_by}
use Rattle.std.proofs.lemmas.List.{take-append-le, drop-append-le, take_all, map-append}
use Rattle.std.proofs.lemmas.List.Elements.{All-nil, All-same, All-cons, All-head, All-tail, All-append}
use Rattle.std.proofs.lemmas.List.Sums.{sum_by_push}
use Rattle.std.proofs.Math.Seq.{drop-append_seam}
use Rattle.mp_files.specs.declared.memory_shelf.Place.{Place}
use Rattle.mp_files.specs.MemoryShelf.{pair_at, pair_size, IsWithin, Fills}

-- what stands in a text stays there when the text grows
piece_stays : (text more : List ℕ) (a b : ℕ) → a ≤ b → b ≤ length text → take (b - a) (drop a (text ++ more)) ≡ take (b - a) (drop a text)
piece_stays text more a b low high =
    let from : a ≤ length text = omega arith in
    let room : b - a ≤ length (drop a text) = simp length-drop (omega arith) in
    rw (drop-append-le a text more from) (take-append-le (b - a) (drop a text) more room)

-- what was appended stands at the end
piece_appended : (text more : List ℕ) → take (length (text ++ more) - length text) (drop (length text) (text ++ more)) ≡ more
piece_appended text more =
    let all : length more ≤ length (text ++ more) - length text = simp length-append (omega arith) in
    rw (drop-append_seam text more) (take_all _ more all)

pair_stays : (text more : List ℕ) (place : Place) → IsWithin (length text) place → pair_at (text ++ more) place ≡ pair_at text place
pair_stays text more place within =
    let middle : place.middle ≤ length text = omega arith in
    let name : take (place.middle - place.start) (drop place.start (text ++ more)) ≡ take (place.middle - place.start) (drop place.start text) = piece_stays text more place.start place.middle within.0 middle in
    let bytes : take (place.end - place.middle) (drop place.middle (text ++ more)) ≡ take (place.end - place.middle) (drop place.middle text) = piece_stays text more place.middle place.end within.1 within.2 in
    cc

pairs_stay : (text more : List ℕ) (places : List Place) → All (IsWithin (length text)) places → map (pair_at (text ++ more)) places ≡ map (pair_at text) places
pairs_stay text more [] within = refl
pairs_stay text more (p ∷ ps) within =
    let first : pair_at (text ++ more) p ≡ pair_at text p = pair_stays text more p (All-head (IsWithin (length text)) p ps within) in
    let others : map (pair_at (text ++ more)) ps ≡ map (pair_at text) ps = pairs_stay text more ps (All-tail (IsWithin (length text)) p ps within) in
    cc

pair_appended : (text name bytes : List ℕ) (place : Place) → place.start ≡ length text → place.middle ≡ length (text ++ name) → place.end ≡ length ((text ++ name) ++ bytes) → pair_at ((text ++ name) ++ bytes) place ≡ (name, bytes)
pair_appended text name bytes place start middle end =
    let low : length text ≤ length (text ++ name) = simp length-append (omega arith) in
    let stays : take (length (text ++ name) - length text) (drop (length text) ((text ++ name) ++ bytes)) ≡ take (length (text ++ name) - length text) (drop (length text) (text ++ name)) = piece_stays (text ++ name) bytes (length text) (length (text ++ name)) low (omega arith) in
    let first : take (length (text ++ name) - length text) (drop (length text) (text ++ name)) ≡ name = piece_appended text name in
    let last : take (length ((text ++ name) ++ bytes) - length (text ++ name)) (drop (length (text ++ name)) ((text ++ name) ++ bytes)) ≡ bytes = piece_appended (text ++ name) bytes in
    cc

-- a place that was added behind the others, for a name and bytes that were appended
pub record Adds (old new : List Place) (before after name bytes : List ℕ) : Type 0 where
  pub place : Place
  pub places : new ≡ old ++ place ∷ []
  pub text : after ≡ (before ++ name) ++ bytes
  pub start : place.start ≡ length before
  pub middle : place.middle ≡ length (before ++ name)
  pub end : place.end ≡ length ((before ++ name) ++ bytes)

-- the pairs have the new one at their end
pub pairs_added : (old new : List Place) (before after name bytes : List ℕ) → Adds old new before after name bytes → Fills old before → map (pair_at after) new ≡ map (pair_at before) old ++ (name, bytes) ∷ []
pairs_added old new before after name bytes adds fills =
    let grown : (before ++ name) ++ bytes ≡ before ++ (name ++ bytes) = append_assoc before name bytes in
    let others : map (pair_at (before ++ (name ++ bytes))) old ≡ map (pair_at before) old = pairs_stay before (name ++ bytes) old fills.within in
    let last : pair_at ((before ++ name) ++ bytes) adds.place ≡ (name, bytes) = pair_appended before name bytes adds.place adds.start adds.middle adds.end in
    let all : map (pair_at after) (old ++ adds.place ∷ []) ≡ map (pair_at after) old ++ pair_at after adds.place ∷ [] = map-append (pair_at after) old (adds.place ∷ []) in
    rw (adds.places, all, adds.text) (rw last (rw (grown, others) refl))

-- the places still are within the text, and their pairs take all of it
pub fills_added : (old new : List Place) (before after name bytes : List ℕ) → Adds old new before after name bytes → Fills old before → Fills new after
fills_added old new before after name bytes adds fills =
    let size : length after ≡ length before + length name + length bytes = rw adds.text (simp length-append refl) in
    let middle : adds.place.middle ≡ length before + length name = adds.middle ∙ length-append before name in
    let end : adds.place.end ≡ length after = adds.end ∙ rw adds.text refl in
    let others : All (IsWithin (length after)) old = λ k d low. (let within : IsWithin (length before) (get_or old k d) = fills.within k d low in (within.0, within.1, omega arith)) in
    let last : IsWithin (length after) adds.place = (omega arith, omega arith, omega arith) in
    let both : All (IsWithin (length after)) (old ++ adds.place ∷ []) = All-append (IsWithin (length after)) old (adds.place ∷ []) others (All-cons (IsWithin (length after)) adds.place [] last (All-nil (IsWithin (length after)))) in
    let pairs : map (pair_at after) new ≡ map (pair_at before) old ++ (name, bytes) ∷ [] = pairs_added old new before after name bytes adds fills in
    let sum : sum_by pair_size (map (pair_at before) old ++ (name, bytes) ∷ []) ≡ sum_by pair_size (map (pair_at before) old) + pair_size (name, bytes) = sum_by_push pair_size (map (pair_at before) old) (name, bytes) in
    record {
      within = All-same (IsWithin (length after)) new (old ++ adds.place ∷ []) adds.places both;
      size = rw (pairs, sum) (omega (arith, fills.size, size));
    }
