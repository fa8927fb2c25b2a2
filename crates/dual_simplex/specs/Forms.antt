-- What a tableau says, however its numbers are kept.
use Rattle.tableau.specs.Tableau.{Tableau}
use Rattle.dual_simplex.specs.declared.final_tableau.Form.{Form}
use Rattle.dual_simplex.specs.declared.final_tableau.Form.TheVariants.{Integers, Scaled, Fractions}

-- the tableau, whichever numbers hold it
abbrev pub tableau_of : Form → Tableau
tableau_of (Integers t) = t
tableau_of (Scaled t) = t
tableau_of (Fractions t) = t
