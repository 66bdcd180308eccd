use Rattle.std.proofs.Common.{◌≡◌, sym, subst}
use Rattle.std.specs.Option.{option_or}
use Rattle.som_tables.specs.Layout.{found_at, line_at, page_start, IsInside}
use Rattle.som_tables.proofs.NextPages.{common_more}
use Rattle.som_tables.proofs.starts.common_page.Goals as goal

pub loop-parent-preserved : goal.loop-parent-preserved
loop-parent-preserved c =
    let i = c.loop-parent.invariant in
    let e = c.in_ok-common.ensures in
    let q = c.parent-item.result in
    record {
      inside = λ starts are. e.inside starts (i.inside starts are) (subst (λ o. IsInside starts o) (sym c.page_of.ensures) (are q c.args.number));
      page = λ starts p. common_more (λ r. page_start starts (found_at (line_at c.args.lines.now r) c.args.number) p) c.args.parents.now c.loop-parent.parent-index q
          (page_start starts c.loop-parent.common p) (page_start starts c.in_ok-common.common p) _ c.loop-parent-test.true c.parent-item.is
          (subst (λ o. option_or (page_start starts c.loop-parent.common p) (page_start starts o p) ≡ page_start starts c.in_ok-common.common p) c.page_of.ensures (e.page starts p)) (i.page starts p);
    }
