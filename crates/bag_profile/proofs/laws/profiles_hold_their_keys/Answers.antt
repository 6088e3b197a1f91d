use Rattle.bag_profile.proofs.HeldKeys.{hold_keys, rules_hold}
use Rattle.bag_profile.proofs.laws.profiles_hold_their_keys.Goals as goal

pub returns-clause-profile : goal.returns-clause-profile
returns-clause-profile c = hold_keys

pub returns-clause-rules : goal.returns-clause-rules
returns-clause-rules c = rules_hold
