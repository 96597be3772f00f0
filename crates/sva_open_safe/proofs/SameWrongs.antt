-- Where the equality test of what is wrong says so, it is the same.
use Rattle.std.proofs.Common.{rules}
use denote.Enum.Declared.{values_one}
use Rattle.sva_open_safe.specs.contracts.wrongs.ThingPartialEq.TheImpl.{eq-value as thing_eq}
use Rattle.sva_open_safe.specs.contracts.wrongs.Wrong.{enum as wrong_enum}
use Rattle.sva_open_safe.specs.contracts.wrongs.WrongPartialEq.TheImpl.{eq-value as wrong_eq}
use Rattle.sva_open_safe.proofs.Sound.{IsSound, number, truth, only, ◌then◌, ◌also◌, chosen_same}

same_thing : IsSound thing_eq.it
same_thing x y h = search rules

pub same_wrong : IsSound wrong_eq.it
same_wrong x y h = values_one wrong_enum x y (chosen_same wrong_enum.parts _ (wrong_enum.as_values x) (wrong_enum.as_values y) h (
    number then number then same_thing then number then only number
    also number then number then same_thing then number then only number
    also number then same_thing then only number
    also number then only number
    also number then number then truth then only number
    also number then number then only number
    also number then only number
    also number then only number
    also number then only number
    also number then number then only number
    also number then only number
    also tt))
