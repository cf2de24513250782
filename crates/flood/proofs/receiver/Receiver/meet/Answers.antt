use Rattle.std.proofs.Common.{◌<◌, ◌∷◌, [], ◌∙◌, ℕ, length, sym, ap, subst}
use Rattle.std.proofs.lemmas.List.{map-append}
use Rattle.mrt_graph.proofs.Members.{all_append}
use Rattle.flood.specs.steps.Numbers.{lsa_in, lsas_by, router_in, AreNumbers}
use Rattle.flood.proofs.InTurn.{arrived_one, kept_one, no_news, passed_over, some_news}
use Rattle.flood.proofs.receiver.Receiver.meet.Goals as goal

pub returns-then-not-is_area_lsa-clause-news : goal.returns-then-not-is_area_lsa-clause-news
returns-then-not-is_area_lsa-clause-news c =
    let lsas = c.args.lsas.now in
    (passed_over (router_in lsas c.args.self.now) (lsas_by lsas c.args.new.now.items) (lsa_in lsas c.args.number) (sym c.is_area_lsa.ensures ∙ c.if-not-is_area_lsa.true)).0

pub returns-then-not-is_area_lsa-clause-after : goal.returns-then-not-is_area_lsa-clause-after
returns-then-not-is_area_lsa-clause-after c =
    let lsas = c.args.lsas.now in
    (passed_over (router_in lsas c.args.self.now) (lsas_by lsas c.args.new.now.items) (lsa_in lsas c.args.number) (sym c.is_area_lsa.ensures ∙ c.if-not-is_area_lsa.true)).1

pub arrive-requires-clause-kept : goal.arrive-requires-clause-kept
arrive-requires-clause-kept c = kept_one (lsa_in c.args.lsas.now c.args.number) (sym c.is_area_lsa.ensures ∙ c.if-not-is_area_lsa.false) c.requires.kept

pub returns-then-not-is_news-clause-news : goal.returns-then-not-is_news-clause-news
returns-then-not-is_news-clause-news c =
    let lsas = c.args.lsas.now in
    no_news (router_in lsas c.args.self.now) (lsas_by lsas c.args.new.now.items) (lsa_in lsas c.args.number) (sym c.is_area_lsa.ensures ∙ c.if-not-is_area_lsa.false)
    (sym c.in_ok-is_news.ensures.news ∙ c.if-not-is_news.true)

pub returns-then-not-is_news-clause-after : goal.returns-then-not-is_news-clause-after
returns-then-not-is_news-clause-after c =
    c.in_ok-is_news.ensures.after
    ∙ arrived_one (router_in c.args.lsas.now c.args.self.now) (lsa_in c.args.lsas.now c.args.number) (sym c.is_area_lsa.ensures ∙ c.if-not-is_area_lsa.false)

pub returns-clause-news : goal.returns-clause-news
returns-clause-news c =
    let lsas = c.args.lsas.now in
    ap (lsas_by lsas) c.in_ok-push.ensures.items ∙ map-append (lsa_in lsas) c.args.new.now.items (c.args.number ∷ [])
    ∙ some_news (router_in lsas c.args.self.now) (lsas_by lsas c.args.new.now.items) (lsa_in lsas c.args.number) (sym c.is_area_lsa.ensures ∙ c.if-not-is_area_lsa.false)
    (sym c.in_ok-is_news.ensures.news ∙ c.if-not-is_news.false)

pub returns-clause-numbers : goal.returns-clause-numbers
returns-clause-numbers c = λ are.
    subst (AreNumbers c.args.lsas.now) (sym c.in_ok-push.ensures.items)
    (all_append (λ (n : ℕ). n < length c.args.lsas.now) c.args.new.now.items (c.args.number ∷ []) are (c.requires.number, tt))

pub returns-clause-after : goal.returns-clause-after
returns-clause-after c =
    c.in_ok-is_news.ensures.after
    ∙ arrived_one (router_in c.args.lsas.now c.args.self.now) (lsa_in c.args.lsas.now c.args.number) (sym c.is_area_lsa.ensures ∙ c.if-not-is_area_lsa.false)
