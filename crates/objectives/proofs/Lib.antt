mod New
