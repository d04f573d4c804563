-- What a step tells of the place that an input leads to.
use Rattle.std.specs.Prelude.{◌≡◌, Option, Some, None}
use Rattle.ps_search.specs.declared.moves.Step.{Step}
use Rattle.ps_search.specs.declared.moves.Step.TheVariants.{Same, Past, To}

-- the step tells where an input leads to from here: it stays, it is past, or it comes to the place of a key
abbrev pub IsStep : {Place Key : Type 0} → (Key → Type 0) → (Key → Place) → Place → Option Place → Step Key → Type 0
IsStep is_key place here led Same = led ≡ Some here
IsStep is_key place here led Past = led ≡ None
IsStep is_key place here led (To key) = is_key key × (led ≡ Some (place key))
