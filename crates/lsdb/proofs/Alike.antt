-- Instances that differ in nothing but place and age are alike, and alike is an equivalence.
use Rattle.std.proofs.Common.{◌≡◌, ◌==◌, ◌&&◌, ℕ, Bool, true, List, refl}
use Rattle.std.specs.Prelude.{nat_eq}
use Rattle.std.specs.Cmp.{IsEquivalence, and_equiv, on_equiv}
use Rattle.std.specs.Cmp.Lexicographic.{pointwise}
use Rattle.std.proofs.lemmas.Cmp.{lists_equiv, nat_eq_equiv, int_eq_equiv}
use Rattle.ospf_lsa.specs.declared.lsa.RouterLink.{RouterLink}
use Rattle.ospf_lsa.specs.declared.lsa.Body.{Body}
use Rattle.ospf_lsa.specs.declared.lsa.Body.TheVariants.{Router, Network, Other}
use Rattle.ospf_lsa.specs.declared.lsa.Lsa.{Lsa}
use Rattle.lsdb.specs.Newest.{same_link, same_body, same_but_age}

link_equiv : IsEquivalence same_link
link_equiv =
    and_equiv (on_equiv (λ (l : RouterLink). l.id) nat_eq_equiv)
    (and_equiv (on_equiv (λ (l : RouterLink). l.link_data) nat_eq_equiv)
    (and_equiv (on_equiv (λ (l : RouterLink). l.kind) nat_eq_equiv)
    (and_equiv (on_equiv (λ (l : RouterLink). l.entries) nat_eq_equiv)
    (on_equiv (λ (l : RouterLink). l.metric) nat_eq_equiv))))

abbrev RouterParts : Type 0
RouterParts = ℕ × ℕ × List RouterLink × List ℕ

abbrev same_router : RouterParts → RouterParts → Bool
same_router a b = (a.0 == b.0) && ((a.1 == b.1) && (pointwise same_link a.2 b.2 && pointwise nat_eq a.3 b.3))

router_equiv : IsEquivalence same_router
router_equiv =
    and_equiv (on_equiv (λ (p : RouterParts). p.0) nat_eq_equiv)
    (and_equiv (on_equiv (λ (p : RouterParts). p.1) nat_eq_equiv)
    (and_equiv (on_equiv (λ (p : RouterParts). p.2) (lists_equiv link_equiv))
    (on_equiv (λ (p : RouterParts). p.3) (lists_equiv nat_eq_equiv))))

abbrev NetworkParts : Type 0
NetworkParts = ℕ × List ℕ

abbrev same_network : NetworkParts → NetworkParts → Bool
same_network a b = (a.0 == b.0) && pointwise nat_eq a.1 b.1

network_equiv : IsEquivalence same_network
network_equiv = and_equiv (on_equiv (λ (p : NetworkParts). p.0) nat_eq_equiv)
    (on_equiv (λ (p : NetworkParts). p.1) (lists_equiv nat_eq_equiv))

bytes_equiv : IsEquivalence (pointwise nat_eq)
bytes_equiv = lists_equiv nat_eq_equiv

body_refl : (a : Body) → same_body a a ≡ true
body_refl (Router f s l t) = router_equiv.refl (f, s, l, t)
body_refl (Network m r) = network_equiv.refl (m, r)
body_refl (Other b) = bytes_equiv.refl b

body_symm : (a b : Body) → same_body a b ≡ same_body b a
body_symm (Router f s l t) (Router f' s' l' t') = router_equiv.symm (f, s, l, t) (f', s', l', t')
body_symm (Router f s l t) (Network m r) = refl
body_symm (Router f s l t) (Other b) = refl
body_symm (Network m r) (Router f s l t) = refl
body_symm (Network m r) (Network m' r') = network_equiv.symm (m, r) (m', r')
body_symm (Network m r) (Other b) = refl
body_symm (Other b) (Router f s l t) = refl
body_symm (Other b) (Network m r) = refl
body_symm (Other b) (Other b') = bytes_equiv.symm b b'

body_congr : (a b c : Body) → same_body a b ≡ true → same_body a c ≡ same_body b c
body_congr (Router f s l t) (Router f' s' l' t') (Router f'' s'' l'' t'') h =
    router_equiv.congr (f, s, l, t) (f', s', l', t') (f'', s'', l'', t'') h
body_congr (Router f s l t) (Router f' s' l' t') (Network m r) h = refl
body_congr (Router f s l t) (Router f' s' l' t') (Other b) h = refl
body_congr (Router f s l t) (Network m r) c h = absurd cc
body_congr (Router f s l t) (Other b) c h = absurd cc
body_congr (Network m r) (Router f s l t) c h = absurd cc
body_congr (Network m r) (Network m' r') (Router f s l t) h = refl
body_congr (Network m r) (Network m' r') (Network m'' r'') h = network_equiv.congr (m, r) (m', r') (m'', r'') h
body_congr (Network m r) (Network m' r') (Other b) h = refl
body_congr (Network m r) (Other b) c h = absurd cc
body_congr (Other b) (Router f s l t) c h = absurd cc
body_congr (Other b) (Network m r) c h = absurd cc
body_congr (Other b) (Other b') (Router f s l t) h = refl
body_congr (Other b) (Other b') (Network m r) h = refl
body_congr (Other b) (Other b') (Other b'') h = bytes_equiv.congr b b' b'' h

body_equiv : IsEquivalence same_body
body_equiv = record { refl = body_refl; symm = body_symm; congr = body_congr }

pub alike_equiv : IsEquivalence same_but_age
alike_equiv =
    and_equiv (and_equiv
    (and_equiv (and_equiv
    (and_equiv (and_equiv (on_equiv (λ (l : Lsa). l.options) nat_eq_equiv)
    (on_equiv (λ (l : Lsa). l.kind) nat_eq_equiv))
    (on_equiv (λ (l : Lsa). l.id) nat_eq_equiv)) (on_equiv (λ (l : Lsa). l.router) nat_eq_equiv))
    (on_equiv (λ (l : Lsa). l.sequence) int_eq_equiv))
    (on_equiv (λ (l : Lsa). l.checksum) nat_eq_equiv)) (on_equiv (λ (l : Lsa). l.body) body_equiv)
