-- What a search settles is exactly what paths reach.
use Rattle.std.proofs.Common.{◌↔◌, ℕ, List, [], ◌∷◌, ◌++◌, refl, sym, subst}
use Rattle.mrt_graph.specs.Reachable.{Path, Reachable}

-- no path leads out of a set that is closed under steps
pub path_stays : (step : ℕ → ℕ → Type 0) (Held : ℕ → Type 0) → ((u v : ℕ) → Held u → step u v → Held v) → (path : List ℕ) (s t : ℕ) → Held s → Path step s path t → Held t
path_stays step Held closed [] s t held p = subst Held p held
path_stays step Held closed (v ∷ vs) s t held p = path_stays step Held closed vs v t (closed s v held p.0) p.1

-- one step more
pub path_onward : (step : ℕ → ℕ → Type 0) (path : List ℕ) (s u v : ℕ) → Path step s path u → step u v → Path step s (path ++ v ∷ []) v
path_onward step [] s u v p onward = (subst (λ (w : ℕ). step w v) (sym p) onward, refl)
path_onward step (w ∷ ws) s u v p onward = (p.0, path_onward step ws w u v p.1 onward)

pub reachable_onward : (step : ℕ → ℕ → Type 0) (s u v : ℕ) → Reachable step s u → step u v → Reachable step s v
reachable_onward step s u v r onward = (r.0 ++ v ∷ [], path_onward step r.0 s u v r.1 onward)

-- a path after a path
pub path_joined : (step : ℕ → ℕ → Type 0) (front back : List ℕ) (s u t : ℕ) → Path step s front u → Path step u back t → Path step s (front ++ back) t
path_joined step [] back s u t p q = subst (λ (w : ℕ). Path step w back t) (sym p) q
path_joined step (w ∷ ws) back s u t p q = (p.0, path_joined step ws back w u t p.1 q)

-- a path along one relation is a path along each that holds where it does
pub path_weaker : (step step' : ℕ → ℕ → Type 0) → ((u v : ℕ) → step u v → step' u v) → (path : List ℕ) (s t : ℕ) → Path step s path t → Path step' s path t
path_weaker step step' weaker [] s t p = p
path_weaker step step' weaker (v ∷ vs) s t p = (weaker s v p.0, path_weaker step step' weaker vs v t p.1)

-- a set that a search from s has settled: it has s, each step from it leads into it, and a path leads to all that it has
pub record IsSettled (step : ℕ → ℕ → Type 0) (s : ℕ) (Held : ℕ → Type 0) : Type 0 where
  pub start : Held s
  pub closed : (u v : ℕ) → Held u → step u v → Held v
  pub reached : (v : ℕ) → Held v → Reachable step s v

-- such a set has exactly what paths from s reach
pub settled_is_reachable : (step : ℕ → ℕ → Type 0) (s : ℕ) (Held : ℕ → Type 0) → IsSettled step s Held → (t : ℕ) → Held t ↔ Reachable step s t
settled_is_reachable step s Held settled t = (settled.reached t, λ r. path_stays step Held settled.closed r.0 s t settled.start r.1)
