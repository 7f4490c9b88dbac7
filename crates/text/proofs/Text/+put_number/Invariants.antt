use Rattle.text.proofs.Text.+put_number.Given as goal

-- the number itself, which falls to its tenth
abbrev pub decreases-put_number : goal.decreases-put_number
decreases-put_number l = l.n
