use Rattle.sal_parse.proofs.tests.is_refused.Goals as goal

pub parse-requires-clause-short : goal.parse-requires-clause-short
parse-requires-clause-short c = rw c.in-Ok.ensures.source c.in-Ok.ensures.short

pub parse-requires-clause-covers : goal.parse-requires-clause-covers
parse-requires-clause-covers c = rw c.in-Ok.ensures.source c.in-Ok.ensures.tokens
