use Rattle.bag_cli.proofs.profile_refusal.say_refusal.Goals as goal

pub returns-in-Unread : goal.returns-in-Unread
returns-in-Unread g c = rw c.in-Unread.is c.say_on.ensures
