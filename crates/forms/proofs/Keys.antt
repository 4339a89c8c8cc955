-- Things sorted by byte lists that belong to them: the byte lists come out sorted. (The code sorts places.)
use Prim.Native.Nat.{ℕ, suc, zero, ◌+◌}
use mathlib.Core.Path.{◌≡◌, refl, sym, ap, ap₂, ◌∙◌}
use mathlib.Core.Bool.{Bool, true, false}
use mathlib.Core.List.{List, [], ◌∷◌, ◌++◌, map}
use lib.ListN.{length, take, drop, length-map}
use lib.Dec.{leb}
use Rattle.forms.specs.Form.{before?}
use Rattle.forms.specs.Sorting.{if, run_on, merge_runs, sweep, sort_from, sort, once_after, once}

module _ {A : Type 0} (key : A → List ℕ) where
  -- the order by these byte lists
  abbrev by_key : A → A → Bool
  by_key i j = before? (key i) (key j)

  map-if : (b : Bool) (f g : Unit {0} → List A) (p q : Unit {0} → List (List ℕ)) → map key (f tt) ≡ p tt → map key (g tt) ≡ q tt → map key (if b f g) ≡ if b p q
  map-if true f g p q e d = e
  map-if false f g p q e d = d

  map-append : (x y : List A) → map key (x ++ y) ≡ map key x ++ map key y
  map-append [] y = refl
  map-append (i ∷ x) y = ap (λ l. key i ∷ l) (map-append x y)

  map-take : (w : ℕ) (x : List A) → map key (take w x) ≡ take w (map key x)
  map-take zero x = refl
  map-take (suc w) [] = refl
  map-take (suc w) (i ∷ x) = ap (λ l. key i ∷ l) (map-take w x)

  map-drop : (w : ℕ) (x : List A) → map key (drop w x) ≡ drop w (map key x)
  map-drop zero x = refl
  map-drop (suc w) [] = refl
  map-drop (suc w) (i ∷ x) = map-drop w x

  run_on_key : (s : A) (ss : List A) (f : List A → List A) (g : List (List ℕ) → List (List ℕ)) → ((qs : List A) → map key (f qs) ≡ g (map key qs)) → (rs : List A)
      → map key (run_on by_key s ss f rs) ≡ run_on before? (key s) (map key ss) g (map key rs)
  unfolding run_on
  run_on_key s ss f g h [] = refl
  run_on_key s ss f g h (r ∷ rs) = map-if (before? (key r) (key s)) _ _ _ _ (ap (λ l. key r ∷ l) (run_on_key s ss f g h rs)) (ap (λ l. key s ∷ l) (h (r ∷ rs)))

  merge_key : (x y : List A) → map key (merge_runs by_key x y) ≡ merge_runs before? (map key x) (map key y)
  unfolding merge_runs
  merge_key [] y = refl
  merge_key (s ∷ ss) y = run_on_key s ss (λ qs. merge_runs by_key ss qs) (λ qs. merge_runs before? (map key ss) qs) (λ qs. merge_key ss qs) y

  -- the first two runs of width w
  pair_key : (w : ℕ) (x : List A) → map key (merge_runs by_key (take w x) (take w (drop w x))) ≡ merge_runs before? (take w (map key x)) (take w (drop w (map key x)))
  pair_key w x = merge_key (take w x) (take w (drop w x)) ∙ ap₂ (merge_runs before?) (map-take w x) (map-take w (drop w x) ∙ ap (take w) (map-drop w x))

  -- a sweep of a list, n long
  abbrev swept : ℕ → ℕ → ℕ → List (List ℕ) → List (List ℕ)
  swept n k w y = if (leb n w) (λ d. y) (λ d. merge_runs before? (take w y) (take w (drop w y)) ++ sweep before? k w (drop w (drop w y)))

  sweep_key : (k w : ℕ) (x : List A) → map key (sweep by_key k w x) ≡ sweep before? k w (map key x)
  unfolding sweep
  sweep_key zero w x = refl
  sweep_key (suc k) w x = both (sweep_key k w (drop w (drop w x))) ∙ ap (λ n. swept n k w (map key x)) (sym (length-map x key))
    where
      two : List A
      two = merge_runs by_key (take w x) (take w (drop w x))

      rest : List A
      rest = sweep by_key k w (drop w (drop w x))

      both : map key rest ≡ sweep before? k w (map key (drop w (drop w x))) → map key (if (leb (length x) w) (λ d. x) (λ d. two ++ rest)) ≡ swept (length x) k w (map key x)
      both i =
          map-if (leb (length x) w) _ _ _ _ refl
          (map-append two rest ∙ ap₂ ◌++◌ (pair_key w x) (i ∙ ap (sweep before? k w) (map-drop w (drop w x) ∙ ap (drop w) (map-drop w x))))

  sort_from_key : (k w : ℕ) (x : List A) → map key (sort_from by_key k w x) ≡ sort_from before? k w (map key x)
  unfolding sort_from
  sort_from_key zero w x = refl
  sort_from_key (suc k) w x =
      map-if (leb (length x) w) _ _ (λ d. map key x) (λ d. sort_from before? k (w + w) (sweep before? (length x) w (map key x))) refl
      (sort_from_key k (w + w) (sweep by_key (length x) w x) ∙ ap (sort_from before? k (w + w)) (sweep_key (length x) w x))
      ∙ ap (λ n. if (leb n w) (λ d. map key x) (λ d. sort_from before? k (w + w) (sweep before? n w (map key x)))) (sym (length-map x key))

  pub sort_key : (x : List A) → map key (sort by_key x) ≡ sort before? (map key x)
  unfolding sort
  sort_key x = sort_from_key (length x) 1 x ∙ ap (λ n. sort_from before? n 1 (map key x)) (sym (length-map x key))

  after_key : (s : A) (x : List A) → map key (once_after by_key s x) ≡ once_after before? (key s) (map key x)
  unfolding once_after
  after_key s [] = refl
  after_key s (r ∷ rs) = map-if (before? (key s) (key r)) _ _ _ _ (ap (λ l. key s ∷ l) (after_key r rs)) (after_key s rs)

  pub once_key : (x : List A) → map key (once by_key x) ≡ once before? (map key x)
  unfolding once
  once_key [] = refl
  once_key (s ∷ x) = after_key s x
