-- What a key stands for: what has one key is the same.
use Rattle.rtl_core.specs.declared.design.Atom.{Atom}
use Rattle.rtl_core.specs.declared.design.Atom.TheVariants as atom
use Rattle.rtl_core.specs.declared.design.Pair.{Pair}
use Rattle.rtl_core.specs.declared.design.Pair.TheVariants as pair
use Rattle.rtl_core.specs.declared.design.Net.{Net}
use Rattle.rtl_core.specs.declared.design.Net.TheVariants as net
use Rattle.rtl_logic.specs.declared.key.AtomKey.{AtomKey}
use Rattle.rtl_logic.specs.declared.key.AtomKey.TheVariants as of_atom
use Rattle.rtl_logic.specs.declared.key.Operator.{Operator}
use Rattle.rtl_logic.specs.declared.key.Operator.TheVariants as of_pair
use Rattle.rtl_logic.specs.declared.key.NetKey.{NetKey}
use Rattle.rtl_logic.specs.declared.key.NetKey.TheVariants as of_net

abbrev pub keyed_atom : AtomKey → Atom
keyed_atom (of_atom.Constant bits value) = atom.Constant bits value
keyed_atom (of_atom.Input k) = atom.Input k
keyed_atom (of_atom.Reg k) = atom.Reg k
keyed_atom (of_atom.Wire k) = atom.Wire k

abbrev pub keyed_pair : Operator → Pair
keyed_pair of_pair.Add = pair.Add
keyed_pair of_pair.Sub = pair.Sub
keyed_pair of_pair.Mul = pair.Mul
keyed_pair of_pair.And = pair.And
keyed_pair of_pair.Or = pair.Or
keyed_pair of_pair.Xor = pair.Xor
keyed_pair of_pair.Equal = pair.Equal
keyed_pair of_pair.Below = pair.Below
keyed_pair of_pair.Left = pair.Left
keyed_pair of_pair.Right = pair.Right

abbrev pub keyed_net : NetKey → Net
keyed_net (of_net.Copy a) = net.Copy (keyed_atom a)
keyed_net (of_net.Not a) = net.Not (keyed_atom a)
keyed_net (of_net.Two op a b) = net.Two (keyed_pair op) (keyed_atom a) (keyed_atom b)
keyed_net (of_net.Pick test a b) = net.Pick (keyed_atom test) (keyed_atom a) (keyed_atom b)
keyed_net (of_net.Join high low) = net.Join (keyed_atom high) (keyed_atom low)
keyed_net (of_net.Part a high low) = net.Part (keyed_atom a) high low
keyed_net (of_net.Word mem address) = net.Word mem (keyed_atom address)
