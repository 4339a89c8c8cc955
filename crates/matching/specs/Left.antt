-- Nobody need believe this: contracts of functions cite it. How a left side's words are matched against a plan's, from the last to the first.
use Rattle.std.specs.Prelude.{◌≡◌, ℕ, ◌+◌, ◌-◌, Bool, true, false, cond, List, [], ◌∷◌, ◌++◌, get_or, set, eqb, leb, ltb, Option, Some, None}
use Rattle.plans.specs.Word.{binary_word}
use Rattle.laws.specs.Laws.{Pattern, any, any_action, δ, entry, node, θ, ∂}
use Rattle.plans.specs.Start.{start_of}
use Rattle.matching.specs.declared.Letters.{Letters}

-- a left side's words, the last first: letter k is 96 + k, and ∂ is letter 5, its set
unfoldable pub back : Pattern → List ℕ
back (any k) = (96 + k) ∷ []
back (any_action k) = (96 + k) ∷ []
back δ = 0 ∷ []
back entry = 102 ∷ []
back (node o p q) = binary_word o ∷ (back q ++ back p)
back (θ p) = 70 ∷ back p
back (∂ p) = 101 ∷ back p

-- where the next word back is matched, after the pattern's word w against the subplan that ends before place e
unfoldable pub next_of : ℕ → List ℕ → ℕ → ℕ → Option ℕ
next_of n plan w e =
    cond (eqb e 0) None
    (cond (ltb w 96) (cond (eqb (get_or plan (e - 1) 0) w) (Some (e - 1)) None)
    (cond (ltb w 99) (Some (start_of n plan (e - 1)))
    (cond (ltb w 101) (cond (leb (get_or plan (e - 1) 0) n) (Some (e - 1)) None)
    (cond (ltb (get_or plan (e - 1) 0) 80) None (cond (ltb (get_or plan (e - 1) 0) 88) (Some (e - 1)) None)))))

-- the letter that a word is; 6 for a sign
unfoldable pub slot_of : ℕ → ℕ
slot_of w = cond (ltb w 96) 6 (cond (ltb w 102) (w - 96) 6)

-- whether all words matched, and from where to where each letter reaches
pub record Matched : Type 0 where
  pub ok : Bool
  pub from : List ℕ
  pub to : List ℕ

abbrev pub on_move : Option ℕ → Matched → (ℕ → Matched) → Matched
on_move (Some e) stop go = go e
on_move None stop go = stop

unfoldable pub match_words : ℕ → List ℕ → List ℕ → ℕ → List ℕ → List ℕ → Matched
match_words n plan [] e f g = record { ok = true; from = f; to = g }
match_words n plan (w ∷ ws) e f g =
    on_move (next_of n plan w e) (record { ok = false; from = f; to = g })
    (λ s. match_words n plan ws s (set f (slot_of w) s) (set g (slot_of w) e))

-- the letters before the first word is matched
abbrev pub no_places : List ℕ
no_places = 0 ∷ 0 ∷ 0 ∷ 0 ∷ 0 ∷ 0 ∷ 0 ∷ []

-- what matching answers: where the letters reach, if all words matched
pub data MatchFound (m : Matched) : Option Letters → Type 0 where
  missed : m.ok ≡ false → MatchFound m None
  found : (l : Letters) → m ≡ record { ok = true; from = l.from; to = l.to } → MatchFound m (Some l)
