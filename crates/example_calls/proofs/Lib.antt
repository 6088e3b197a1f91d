mod Advised
