-- What the example of a renewal asks for.
use Rattle.std.specs.Prelude.{[], ◌∷◌, false}
use Rattle.bag_text.specs.declared.alg.Alg.TheVariants.{Sha512}
use Rattle.bag_renewed.specs.declared.renewal.Renewal.{Renewal}

-- manifests of SHA-512, and nothing else
abbrev pub adding_sha512 : Renewal
adding_sha512 = record {
  added = Sha512 ∷ [];
  dropped = [];
  unchecked = false;
  elements = record { set = []; appended = []; unset = [] };
  to_1_0 = false;
}
