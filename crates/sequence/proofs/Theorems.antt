-- Demand 3, for any family of calls whose held answers are, in elements, the whole-number ones; where it is tied to functions, for the functions; and for
-- two families joined.
use mathlib.Core.Path.{◌≡◌, refl, sym, ap, ap₂, subst, fun_ext, ◌∙◌}
use mathlib.Core.Logic.{◌↔◌, ◌⊎◌, inl, inr}
use mathlib.Core.List.{List, [], ◌∷◌, ◌++◌, map, map-map, map-append}
use Prim.Native.Nat.{ℕ, ◌%◌, ◌^◌, ◌<◌}
use native.Mathlib.Nat.{mod-lt, mod-eq_of_lt, lt_trans}
use lib.Dec.{lit<}
use Rattle.prime.specs.Modulus.{P}
use Rattle.prime.specs.Lists.{Each}
use Rattle.words.specs.Words.{Words}
use Rattle.wire.specs.Wire.{element_bytes, bytes_of}
use Rattle.wire.proofs.Theorems.{same_bytes}
use Rattle.sequence.specs.Outcomes.{Outcome, element, elements, seen, shown}
use Rattle.sequence.specs.Families.{May, Family, Respectful, Agrees, named, both}
use Rattle.sequence.specs.Runs.{at, run, Plays}
use Rattle.sequence.specs.Ties.{Tied, either_may}
use Rattle.sequence.proofs.Stores.{words_append, word_at, element_at}

-- what is seen of an outcome is what is shown of its elements
seen_elements : {Says : Type 0} (o : Outcome Says ℕ) → seen o ≡ shown (elements o)
seen_elements o =
    ap (λ (bs : List (List ℕ)). record { says = o.says; words = bs; numbers = o.numbers }) (sym (map-map (bytes_of 8) element o.words))

-- remainders are below P
elements_below : (ws : List ℕ) → Each (λ (w : ℕ). w < P) (map element ws)
elements_below [] = tt
elements_below (w ∷ ws) = (mod-lt w (lit< tt), elements_below ws)

module _ (F : Family) (respectful : Respectful F) where
  -- one call
  agrees : (c : F.Call) (ws ns : List ℕ) → Words ws → Agrees (F.held c (at ws) (at ns)) (F.whole c (at (map element ws)) (at ns))
  agrees c ws ns h =
      subst (λ (e : ℕ → ℕ). Agrees (F.held c (at ws) (at ns)) (F.whole c e (at ns))) (sym (element_at ws))
      (respectful c (at ws) (at ns) (word_at ws h))

  -- What is seen of any sequence of calls in held words is what is shown of it in whole numbers, from the elements of the starting words.
  pub sequence : (cs : List F.Call) (ws ns : List ℕ) → Words ws
      → map seen (run F.held cs ws ns) ≡ map shown (run F.whole cs (map element ws) ns)
  sequence [] ws ns h = refl
  sequence (c ∷ cs) ws ns h =
      let o : Outcome F.Says ℕ = F.held c (at ws) (at ns) in
      let a : Agrees o (F.whole c (at (map element ws)) (at ns)) = agrees c ws ns h in
      subst
      (λ (w : Outcome F.Says ℕ). map seen (o ∷ run F.held cs (ws ++ o.words) (ns ++ o.numbers))
      ≡ map shown (w ∷ run F.whole cs (map element ws ++ w.words) (ns ++ w.numbers)))
      a.same
      (ap₂ ◌∷◌ (seen_elements o)
      (sequence cs (ws ++ o.words) (ns ++ o.numbers) (words_append ws o.words h a.below)
      ∙ ap (λ (es : List ℕ). map shown (run F.whole cs es (ns ++ o.numbers))) (map-append element ws o.words)))

  -- Two runs from words that agree modulo P one by one are seen alike.
  pub runs_alike : (cs : List F.Call) (ws vs ns : List ℕ) → Words ws → Words vs → map element ws ≡ map element vs
      → map seen (run F.held cs ws ns) ≡ map seen (run F.held cs vs ns)
  runs_alike cs ws vs ns h k e =
      sequence cs ws ns h ∙ ap (λ (es : List ℕ). map shown (run F.whole cs es ns)) e ∙ sym (sequence cs vs ns k)

  -- The whole-number side stays below P: from numbers below P, each call leaves numbers below P.
  pub whole_below : (c : F.Call) (e n : ℕ → ℕ) → ((i : ℕ) → e i < P) → Each (λ (w : ℕ). w < P) (F.whole c e n).words
  whole_below c e n h =
      let same : elements (F.held c e n) ≡ F.whole c e n =
      (respectful c e n (λ i. lt_trans (h i) (lit< tt))).same ∙ ap (λ (d : ℕ → ℕ). F.whole c d n) (fun_ext (λ i. mod-eq_of_lt (h i))) in
      subst (λ (o : Outcome F.Says ℕ). Each (λ (w : ℕ). w < P) o.words) same (elements_below (F.held c e n).words)

module _ (F : Family) {may : May F.Call F.Says} (respectful : Respectful F) (tied : Tied F may) where
  -- The outcomes that any calls in turn may have are those of the held run, and no others.
  pub as_held : (cs : List F.Call) (ws ns : List ℕ) (os : List (Outcome F.Says ℕ)) → Plays may cs ws ns os → os ≡ run F.held cs ws ns
  as_held [] ws ns [] p = refl
  as_held [] ws ns (o ∷ os) p = absurd p
  as_held (c ∷ cs) ws ns [] p = absurd p
  as_held (c ∷ cs) ws ns (o ∷ os) p =
      subst (λ (q : Outcome F.Says ℕ). o ∷ os ≡ q ∷ run F.held cs (ws ++ q.words) (ns ++ q.numbers)) (tied.only c (at ws) (at ns) o p.0)
      (ap (λ (l : List (Outcome F.Says ℕ)). o ∷ l) (as_held cs (ws ++ o.words) (ns ++ o.numbers) os p.1))

  -- From starting words below 2^64 they may have those.
  pub held_ran : (cs : List F.Call) (ws ns : List ℕ) → Words ws → Plays may cs ws ns (run F.held cs ws ns)
  held_ran [] ws ns h = tt
  held_ran (c ∷ cs) ws ns h =
      let o : Outcome F.Says ℕ = F.held c (at ws) (at ns) in (
        tied.possible c (at ws) (at ns) (word_at ws h),
        held_ran cs (ws ++ o.words) (ns ++ o.numbers) (words_append ws o.words h (agrees F respectful c ws ns h).below),
      )

  -- What is seen of any calls that the functions answer is what is shown of the whole-number run.
  pub functions_run : (cs : List F.Call) (ws ns : List ℕ) → Words ws → (os : List (Outcome F.Says ℕ)) → Plays may cs ws ns os
      → map seen os ≡ map shown (run F.whole cs (map element ws) ns)
  functions_run cs ws ns h os p = ap (map seen) (as_held cs ws ns os p) ∙ sequence F respectful cs ws ns h

  -- Run twice, from words that agree modulo P one by one, the functions are seen to answer alike.
  pub run_twice : (cs : List F.Call) (ws vs ns : List ℕ) → Words ws → Words vs → map element ws ≡ map element vs
      → (os ps : List (Outcome F.Says ℕ)) → Plays may cs ws ns os → Plays may cs vs ns ps → map seen os ≡ map seen ps
  run_twice cs ws vs ns h k e os ps p q =
      ap (map seen) (as_held cs ws ns os p) ∙ runs_alike F respectful cs ws vs ns h k e ∙ sym (ap (map seen) (as_held cs vs ns ps q))

-- Two words encode alike exactly if they agree modulo P.
pub encode_alike : (x y : ℕ) → (element_bytes x ≡ element_bytes y) ↔ (x % P ≡ y % P)
encode_alike = same_bytes

-- Two families joined are a family of the same kind,
pub joined : (F G : Family) → Respectful F → Respectful G → Respectful (both F G)
joined F G f g (inl c) s n h = record { below = (f c s n h).below; same = ap (named inl) (f c s n h).same }
joined F G f g (inr c) s n h = record { below = (g c s n h).below; same = ap (named inr) (g c s n h).same }

-- and where both are tied to functions, so are they joined: all that stands above holds of them.
module _ (F G : Family) {may : May F.Call F.Says} {might : May G.Call G.Says} (f : Tied F may) (g : Tied G might) where
  either_only : (c : F.Call ⊎ G.Call) (s n : ℕ → ℕ) (o : Outcome (F.Says ⊎ G.Says) ℕ) → either_may may might c s n o → o ≡ (both F G).held c s n
  either_only (inl c) s n o (p, m, e) = e ∙ ap (named inl) (f.only c s n p m)
  either_only (inr c) s n o (p, m, e) = e ∙ ap (named inr) (g.only c s n p m)

  either_possible : (c : F.Call ⊎ G.Call) (s n : ℕ → ℕ) → ((i : ℕ) → s i < 2 ^ 64) → either_may may might c s n ((both F G).held c s n)
  either_possible (inl c) s n h = (F.held c s n, f.possible c s n h, refl)
  either_possible (inr c) s n h = (G.held c s n, g.possible c s n h, refl)

  pub joined_tied : Tied (both F G) (either_may may might)
  joined_tied = record { only = either_only; possible = either_possible }
