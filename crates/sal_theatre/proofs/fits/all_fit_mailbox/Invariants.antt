use Rattle.std.proofs.Common.{◌≡◌, drop}
use Rattle.std.specs.List.{list_all}
use Rattle.sal_routing.specs.Fits.{fits_mailbox}
use Rattle.sal_theatre.proofs.fits.all_fit_mailbox.Given as goal

abbrev pub invariant-loop-message : goal.invariant-loop-message
invariant-loop-message g l = list_all (fits_mailbox (g.R.Runner.meaning l.runner) l.actor) l.messages ≡ list_all (fits_mailbox (g.R.Runner.meaning l.runner) l.actor) (drop l.message-index l.messages)
