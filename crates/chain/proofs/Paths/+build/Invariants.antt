use Rattle.chain.proofs.Paths.+build.Given as goal

-- the remaining number of links
abbrev pub decreases-build : goal.decreases-build
decreases-build l = l.left
