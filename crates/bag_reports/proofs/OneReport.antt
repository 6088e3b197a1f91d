-- Reading on in one report.
use Rattle.std.proofs.Common.{IsTrue, refl, subst, sym, ◌∙◌}
use Rattle.bag_reports.specs.Reports.{ReadsOn, ReportsState, SameReports}

pub reads_itself : (state : ReportsState) → ReadsOn state state
reads_itself state = record {
  same = record { count = refl; honest = refl; held = refl };
  open_is = refl;
  earlier = refl;
  holds = λ _ opened. opened;
}

pub reads_more : (old mid new : ReportsState) → ReadsOn old mid → ReadsOn mid new → ReadsOn old new
reads_more old mid new a b = record {
  same =
      record {
        count = b.same.count ∙ a.same.count;
        honest = b.same.honest ∙ a.same.honest;
        held = b.same.held ∙ a.same.held;
      };
  open_is = b.open_is ∙ a.open_is;
  earlier = b.earlier ∙ a.earlier;
  holds = λ honest opened. b.holds (subst IsTrue (sym a.same.honest) honest) (a.holds honest opened);
}

pub same_itself : (state : ReportsState) → SameReports state state
same_itself state = record { count = refl; honest = refl; held = refl }

pub same_more : (old mid new : ReportsState) → SameReports old mid → SameReports mid new → SameReports old new
same_more old mid new a b = record {
  count = b.count ∙ a.count;
  honest = b.honest ∙ a.honest;
  held = b.held ∙ a.held;
}
