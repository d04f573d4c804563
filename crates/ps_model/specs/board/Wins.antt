-- Win conditions: `No X`, `Some X` and `All X`, each alone or with `on Y`. A name that stands for an aggregate asks for
-- all its objects in the cell, a property for one of them.
use Rattle.std.specs.Prelude.{Option}
use Rattle.ps_model.specs.declared.rules.Quantifier.{Quantifier}
use Rattle.ps_model.specs.names.Names.{Meaning}

-- a win condition
pub record Win : Type 0 where
  pub quantifier : Quantifier
  pub subject : Meaning
  -- the name after `on`
  pub place : Option Meaning
