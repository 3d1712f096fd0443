use Rattle.sal_expressions.proofs.at_depth.+unary.Given as goal

abbrev pub decreases-unary : goal.decreases-unary
decreases-unary l = l.depth
