-- What is printed of a station file, from what reading it answers and leaves.
use Rattle.std.specs.Prelude.{Result, Ok, Err}
use Prim.Native.Nat.{ℕ, ◌≤◌, ◌-◌}
use native.Mathlib.Omega.{arith}
use mathlib.Core.Path.{◌≡◌, refl, sym, ◌∙◌, ap}
use mathlib.Core.List.{List, append-nil}
use mathlib.Core.Option.{Option, none, some}
use lib.ListN.{length, take}
use Rattle.refusals.specs.declared.Refusal.{Refusal}
use Rattle.refusals.proofs.Judging.{none_of_both}
use Rattle.areas.specs.Area.{padded}
use Rattle.stations.specs.File.{form_refusal, file_refusal, tables_held, plan_held, station_outcome, StationOutcome}
use Rattle.stations.specs.File as file_of
use Rattle.stations.proofs.Forms.{tables-long}
use Rattle.stations.proofs.Reading.{areas-fit}
use Rattle.demands.proofs.Reports.{take-padded}
use Rattle.listing.specs.Listing as listing_of
use Rattle.listing.specs.Listing.{refused_line, plan_listing, listing}

filled : (w : List ℕ) (n : ℕ) → length w ≡ n → padded w n ≡ w
unfolding padded
filled w n h =
    let q : n - length w ≡ 0 = omega arith in
    rw q (append-nil w)

-- what is printed of a file that holds a plan of k words, where the areas t and p were left
pub record Prints (f t p : List ℕ) (k : ℕ) : Type 0 where
  pub within : k ≤ 8192
  pub text : listing f ≡ plan_listing t (take k p)

module _ (f t p : List ℕ) (ht : length t ≡ 2305) (hp : length p ≡ 8192) where
  in_areas : station_outcome f t p ≡ file_of.unless_refused (file_refusal f 2305 8192) (tables_held f) (plan_held f) t p
  unfolding station_outcome
  in_areas =
      ap (λ (m : ℕ). file_of.unless_refused (file_refusal f m (length p)) (tables_held f) (plan_held f) t p) ht
      ∙ ap (λ (m : ℕ). file_of.unless_refused (file_refusal f 2305 m) (tables_held f) (plan_held f) t p) hp

  pub refused-file : {r : Refusal} (x : Result ℕ Refusal) (t' p' : List ℕ) → x ≡ Err r → record { answer = x; tables = t'; plan = p' } ≡ station_outcome f t p
      → listing f ≡ refused_line r
  unfolding listing
  refused-file {r} x t' p' q e = go (file_refusal f 2305 8192) (ap (λ (o : StationOutcome). o.answer) (e ∙ in_areas))
    where
      go : (o : Option Refusal) → x ≡ (file_of.unless_refused o (tables_held f) (plan_held f) t p).answer
          → listing_of.unless_refused o (plan_listing (tables_held f) (plan_held f)) ≡ refused_line r
      go (some g) h = ap refused_line (cc)
      go none h = let z : ◌≡◌ {A = ℕ} 0 1 = cc in absurd (omega arith)

  -- a file that is not refused has whole tables and a plan that fits
  fits : file_refusal f 2305 8192 ≡ none → (length (tables_held f) ≡ 2305) × (length (plan_held f) ≤ 8192)
  unfolding file_refusal
  fits e =
      let h = (none_of_both (form_refusal f) _).0 e in
      (tables-long f h.0, (areas-fit (tables_held f) (plan_held f) 2305 8192 h.1).1)

  read_by : {t' p' : List ℕ} {k : ℕ} → file_refusal f 2305 8192 ≡ none → k ≡ length (plan_held f) → t' ≡ padded (tables_held f) (length t) → p' ≡ padded (plan_held f) (length p) → Prints f t' p' k
  unfolding listing
  read_by {t'} {p'} {k} e a b d =
      let h = fits e in
      let i : t' ≡ tables_held f = b ∙ filled (tables_held f) (length t) (h.0 ∙ sym ht) in
      let j : take k p' ≡ plan_held f = ap (λ (m : ℕ). take m p') a ∙ ap (λ (m : List ℕ). take (length (plan_held f)) m) d ∙ take-padded (plan_held f) (length p) in
      record {
        within = omega (arith, h.1);
        text = ap (λ (o : Option Refusal). listing_of.unless_refused o (plan_listing (tables_held f) (plan_held f))) e
            ∙ ap (λ (m : List ℕ). plan_listing m (plan_held f)) (sym i)
            ∙ ap (λ (m : List ℕ). plan_listing t' m) (sym j);
      }

  pub read-file : {k : ℕ} (x : Result ℕ Refusal) (t' p' : List ℕ) → x ≡ Ok k → record { answer = x; tables = t'; plan = p' } ≡ station_outcome f t p → Prints f t' p' k
  read-file {k} x t' p' q e = go (file_refusal f 2305 8192) refl (e ∙ in_areas)
    where
      go : (o : Option Refusal) → file_refusal f 2305 8192 ≡ o → record { answer = x; tables = t'; plan = p' } ≡ file_of.unless_refused o (tables_held f) (plan_held f) t p → Prints f t' p' k
      go (some g) h i = let z : ◌≡◌ {A = ℕ} 0 1 = cc (ap (λ (o : StationOutcome). o.answer) i) in absurd (omega arith)
      go none h i =
          let z : Ok k ≡ Ok (length (plan_held f)) = sym q ∙ ap (λ (o : StationOutcome). o.answer) i in
          read_by h (cc) (ap (λ (o : StationOutcome). o.tables) i) (ap (λ (o : StationOutcome). o.plan) i)
