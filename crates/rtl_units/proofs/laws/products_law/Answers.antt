use Rattle.rtl_units.proofs.Products.{products, stays}
use Rattle.rtl_units.proofs.laws.products_law.Goals as goal

pub returns : goal.returns
returns c = record { products = products; stays = stays }
