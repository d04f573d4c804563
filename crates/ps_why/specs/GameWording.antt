-- What is said about loops, and of names for several objects, in words.
use Rattle.std.specs.Prelude.{ℕ, Option, Some, None, List, ◌++◌, codes}
use Rattle.std.specs.Fmt.{decimal}
use Rattle.ps_causes.specs.declared.causes.LoopCause.{LoopCause}
use Rattle.ps_causes.specs.declared.causes.LoopCause.TheVariants.{Nested, Unbegun, Unended}
use Rattle.ps_causes.specs.declared.causes.WholeCause.{WholeCause}
use Rattle.ps_causes.specs.declared.causes.WholeCause.TheVariants.{AllAtOnce, AnyOfThem, OnTwoLayers, OnOneLayer}

-- that a loop is open
abbrev pub nested_words : ℕ → List ℕ
nested_words line = codes "The loop of line " ++ (decimal line ++ codes " is still open: loops don't nest.")

-- that none is, and where the last one has ended
abbrev pub unbegun_words : Option ℕ → List ℕ
unbegun_words None = codes "No loop is open here: there is no `startloop` above."
unbegun_words (Some line) = codes "No loop is open here: line " ++ (decimal line ++ codes " has ended the last one.")

-- what is said about a loop
abbrev pub loop_sentence : LoopCause → List ℕ
loop_sentence (Nested word line) = nested_words line
loop_sentence (Unbegun word ended) = unbegun_words ended
loop_sentence (Unended word) = codes "There is no `endloop` below."

-- that a word stands for several objects at once
abbrev pub at_once_words : List ℕ → ℕ → List ℕ
at_once_words word line =
    codes "Line " ++ (decimal line ++ (codes " makes `" ++ (word ++
    codes "` several objects at once: with `or` it would be any of them.")))

-- that a word stands for any of several objects
abbrev pub any_of_words : List ℕ → ℕ → List ℕ
any_of_words word line =
    codes "Line " ++ (decimal line ++ (codes " makes `" ++ (word ++
    codes "` any of several objects: with `and` it would be all of them.")))

-- that two words stand in two lines of COLLISIONLAYERS
abbrev pub apart_words : List ℕ → ℕ → List ℕ → ℕ → List ℕ
apart_words word layer other other_layer =
    codes "Line " ++ (decimal layer ++ (codes " of COLLISIONLAYERS has `" ++ (word ++ (codes "` and line "
    ++ (decimal other_layer ++ (codes " has `" ++ (other ++ codes "`: a background has to lie on one layer.")))))))

-- that two words stand in one line of COLLISIONLAYERS
abbrev pub one_layer_words : List ℕ → List ℕ → ℕ → List ℕ
one_layer_words word other layer =
    codes "`and` joins objects of different lines of COLLISIONLAYERS: line " ++ (decimal layer ++ (codes " has both `"
    ++ (other ++ (codes "` and `" ++ (word ++ codes "`.")))))

-- what is said about a name for several objects
abbrev pub whole_sentence : WholeCause → List ℕ
whole_sentence (AllAtOnce word first) = at_once_words word.text.now first.line
whole_sentence (AnyOfThem word first) = any_of_words word.text.now first.line
whole_sentence (OnTwoLayers word layer other other_layer) =
    apart_words word.text.now layer other.text.now other_layer
whole_sentence (OnOneLayer word other layer) = one_layer_words word.text.now other.text.now layer
