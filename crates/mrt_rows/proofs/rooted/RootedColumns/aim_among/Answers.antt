use Rattle.std.proofs.Common.{ap, sym, subst}
use Rattle.mrt_rows.specs.Rooted.{MakeColumns}
use Rattle.mrt_rows.specs.RootedParts.{RootedParts}
use Rattle.mrt_rows.proofs.rooted.RootedColumns.aim_among.Goals as goal

pub aim-self-inside-requires-clause-rooted : goal.aim-self-inside-requires-clause-rooted
aim-self-inside-requires-clause-rooted c = (subst (λ (rooted : RootedParts). MakeColumns c.args.g.now rooted) (sym c.self.view_is) c.requires.made).rooted

pub aim-self-inside-requires-clause-held : goal.aim-self-inside-requires-clause-held
aim-self-inside-requires-clause-held c = (subst (λ (rooted : RootedParts). MakeColumns c.args.g.now rooted) (sym c.self.view_is) c.requires.made).held

pub returns-clause-root : goal.returns-clause-root
returns-clause-root c = ap (λ (rooted : RootedParts). rooted.root) c.self.view_is

pub returns-clause-aimed : goal.returns-clause-aimed
returns-clause-aimed c =
    let made = subst (λ (rooted : RootedParts). MakeColumns c.args.g.now rooted) (sym c.self.view_is) c.requires.made in
    record {
      made = record { rooted = made.rooted; directed = made.directed; held = c.aim-self-inside.ensures.aimed.held };
      is = c.aim-self-inside.ensures.node;
      aimed = c.aim-self-inside.ensures.aimed;
    }
