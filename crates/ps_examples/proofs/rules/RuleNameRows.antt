-- Rules whose cells name what they can't, worked by hand.
use Rattle.std.proofs.Common.{◌≡◌, [], ◌∷◌, map, refl, None}
use Rattle.std.specs.Prelude.{codes}
use Rattle.ps_model.specs.declared.faults.FaultKind.TheVariants.{NameTwice, NoAggregate, Unbound}
use Rattle.ps_model.specs.names.Names.{AnyOf}
use Rattle.ps_examples.proofs.rules.RuleTexts.{AllTold, told_with, fault_at, with_name, object, at, ac}

-- RU5 -----------------------------------------------------------------------------------------------------------------

-- one side of a cell names one object or one property twice: by another name too, with a movement word or without, and
-- an aggregate by its objects
twice : AllTold (fault_at 2 NameTwice)
    (codes "[ A A ] -> [ A ]" ∷ codes "[ A ] -> [ a B A ]" ∷ codes "[ Crate * ] -> cancel" ∷ codes
    "[ > A < A ] -> cancel" ∷ codes "[ B | | A B A ] -> cancel" ∷ codes "[ A B B ] -> cancel"
    ∷ codes "[ @ @ ] -> cancel" ∷ codes "[ @ Crate ] -> cancel" ∷ codes "[ Target @ ] -> cancel" ∷ codes
    "[ AT AT ] -> cancel" ∷ codes "[ AT ] -> [ AT > at ]"
    ∷ codes "[ A | ... A A | B ] -> cancel" ∷ [])
twice = refl

property_twice : told_with (with_name (codes "ta") at) (codes "[ AT TA ] -> cancel") ≡ fault_at 2 NameTwice
property_twice = refl

-- two properties aren't one, even of the same objects; a property and one of its members aren't one name; `no` isn't
-- counted
not_twice : told_with (with_name (codes "ta") (AnyOf 92 (object 5 ∷ object 4 ∷ []))) (codes "[ AT TA ] -> cancel") ≡
    None
not_twice = refl

once : AllTold None (codes "[ AT A ] -> cancel" ∷ codes "[ A no A ] -> [ no A A no A ]" ∷ codes "[ @ AT ] -> cancel" ∷
    codes "[ A ] [ A ] -> [ A ] [ A ]" ∷ [])
once = refl

-- RU6 -----------------------------------------------------------------------------------------------------------------

barred_aggregate : AllTold (fault_at 2 NoAggregate)
    (codes "[ no @ ] -> [ A ]" ∷ codes "[ A | B ] -> [ A | no @ ]" ∷ codes "[ A | no @ ... | B ] -> cancel" ∷ [])
barred_aggregate = refl

-- RU7 -----------------------------------------------------------------------------------------------------------------

-- a property on the right that the left names nowhere, or in two other cells; `no` names nothing
unbound_property : AllTold (fault_at 2 Unbound)
    (codes "[ A ] -> [ AT ]" ∷ codes "[ AT | AT | Crate ] -> [ | | Crate AT ]" ∷ codes "[ no AT ] -> [ AT ]" ∷ codes
    "[ A | ] -> [ A | > AT ]" ∷ codes "[ A ] [ ] -> [ ] [ AT ]" ∷ [])
unbound_property = refl

-- it is bound in its own cell, or to the only one of the left
bound_property : AllTold None
    (codes "[ AT ] -> [ AT ]" ∷ codes "[ AT | AT ] -> [ | AT ]" ∷ codes "[ AT | Crate ] -> [ | Crate AT ]" ∷ codes
    "[ AT ] [ Crate ] -> [ AT ] [ Crate AT ]" ∷ codes "[ A ] -> [ no AT ]"
    ∷ codes "[ AT | AT | B ] -> [ > AT | < AT | ]" ∷ codes "[ AT | ... | B ] -> [ | ... | AT ]" ∷ codes
    "[ AT | AT ] -> cancel" ∷ [])
bound_property = refl

-- a loose property is bound as any other; a synonym is the same name, another property isn't
loose_property : map (told_with (with_name (codes "ac") ac))
    (codes "[ AC | AC ] -> [ > AC | ]" ∷ codes "[ AC | AC | ] -> [ | | AC ]" ∷ codes "[ AC ] -> [ AT ]" ∷ [])
    ≡ None ∷ fault_at 2 Unbound ∷ fault_at 2 Unbound ∷ []
loose_property = refl

bound_synonym : told_with (with_name (codes "ta") at) (codes "[ AT | AT ] -> [ | TA ]") ≡ None
bound_synonym = refl

-- a word of several moves on the right that no left one decides: none is there, or two and none of them in the same
-- cell before the same name; words are compared as they are written
unbound_word : AllTold (fault_at 2 Unbound)
    (codes "[ A ] -> [ moving A ]" ∷ codes "[ A ] -> [ horizontal A ]" ∷ codes "[ horizontal A ] -> [ parallel A ]" ∷
    codes "[ moving A ] -> [ orthogonal A ]"
    ∷ codes "[ moving A | moving B ] -> [ moving B | ]" ∷ codes "[ moving A moving Crate ] -> [ moving Wall A ]" ∷
    codes "[ moving A | moving B | ] -> [ | | moving A ]"
    ∷ codes "[ moving A ] -> [ moving AT ]" ∷ codes "[ vertical A ] -> [ vertical A horizontal Wall ]" ∷ [])
unbound_word = refl

bound_word : AllTold None
    (codes "[ moving Player | Crate ] -> [ moving Player | moving Crate ]" ∷ codes
    "[ moving A | moving B ] -> [ moving A | moving B ]" ∷ codes "[ moving A ] -> [ moving B ]"
    ∷ codes "[ moving @ | moving A ] -> [ moving @ | ]" ∷ codes
    "[ moving A parallel Crate ] -> [ parallel Wall moving A ]" ∷ codes "[ moving AT | ] -> [ | moving AT ]"
    ∷ codes "[ A ] -> [ right A ]" ∷ codes "[ A ] -> [ action A ]" ∷ codes "[ A ] -> [ stationary A ]" ∷ codes
    "[ A ] -> [ > A ]" ∷ codes "[ A ] -> [ v A ]" ∷ [])
bound_word = refl
