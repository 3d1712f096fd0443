use Rattle.sal_desk.proofs.state.State.new.Goals as goal

pub returns : goal.returns
returns c = λ i. record {
  me = c.args.me;
  plan = c.in_ok-plan.ensures i;
  residents = c.new-2.ensures.residents i;
  ready = c.new-2.ensures.ready i;
  delayed = c.new-2.ensures.delayed i;
  held = c.new-2.ensures.held i;
  pending = c.new-2.ensures.pending i;
  places = c.new-2.ensures.places i;
  questions = c.new-2.ensures.questions i;
  links = c.in_ok-links.ensures i;
  clock = 0;
  next_anon = 0;
}
