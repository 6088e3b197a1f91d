-- What may be asked of a bag.
use Rattle.std.specs.Prelude.{[], false}
use Rattle.bag_renewed.specs.declared.renewal.Renewal.{Renewal}

-- nothing is asked for
abbrev pub nothing : Renewal
nothing = record {
  added = [];
  dropped = [];
  unchecked = false;
  elements = record { set = []; appended = []; unset = [] };
  to_1_0 = false;
}
